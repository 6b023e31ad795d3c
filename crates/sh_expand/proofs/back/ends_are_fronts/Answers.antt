use Rattle.sh_expand.proofs.Ends.{either_way, end_is_front}
use Rattle.sh_expand.proofs.back.ends_are_fronts.Goals as goal

pub returns-clause-texts : goal.returns-clause-texts
returns-clause-texts c = either_way

pub returns-clause-ends : goal.returns-clause-ends
returns-clause-ends c = end_is_front
