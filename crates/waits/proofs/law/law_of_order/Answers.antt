use Rattle.waits.proofs.Sorting.{sorted}
use Rattle.waits.proofs.law.law_of_order.Goals as goal

pub returns : goal.returns
returns c = λ rows. sorted rows
