use Rattle.sh_parser.proofs.Parts.{stuck_whole, whole_stray}
use Rattle.sh_parser.proofs.reader.Reader.whole.Goals as goal

pub returns-in_err-list : goal.returns-in_err-list
returns-in_err-list c = stuck_whole c.from_residual.result c.from_residual.ensures.1 c.in_err-list.ensures.reads

pub returns-in-Some : goal.returns-in-Some
returns-in-Some c = whole_stray _ _ _ _ _ _ _ c.in-Some.ensures c.in_ok-list.ensures.reads.is c.stray.ensures.kind c.stray.ensures.place
