use Rattle.cuts.proofs.Whole.{opening_boots}
use Rattle.cuts.proofs.law.law_of_openings.Goals as goal

pub returns : goal.returns
returns c = λ size z sound image cut clean. opening_boots size z sound image cut clean
