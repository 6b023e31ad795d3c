use Rattle.sh_expand.proofs.Fronts.{both_ways}
use Rattle.sh_expand.proofs.cut.whole_front.Goals as goal

pub returns : goal.returns
returns c = both_ways
