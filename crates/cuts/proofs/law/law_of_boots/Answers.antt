use Rattle.cuts.proofs.Whole.{held_boots}
use Rattle.cuts.proofs.law.law_of_boots.Goals as goal

pub returns : goal.returns
returns c = λ size s image holds sound text. held_boots size s image holds sound text
