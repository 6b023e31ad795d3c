use Rattle.bd_text.proofs.GroupLemmas.{filled-is}
use Rattle.bd_text.proofs.v6.filled.Goals as goal

pub returns : goal.returns
returns c = rw (c.copy_from_slice.ensures.after, c.copy_from_slice-2.ensures.after) (filled-is c.args.before.now c.args.after.now c.requires)
