use Rattle.sh_parser.proofs.Once.{one, not_both, one_fault}
use Rattle.sh_parser.proofs.whole.one_reading.Goals as goal

pub returns : goal.returns
returns c = record { one = one; not_both = not_both; one_fault = one_fault }
