use Rattle.std.proofs.Common.{IsTrue}
use Rattle.cuts.proofs.Whole.{last_runs}
use Rattle.cuts.proofs.law.law_of_the_last.Goals as goal

pub returns : goal.returns
returns c = λ size s P xs x lawful image cut. last_runs size s (λ q. IsTrue (P q)) xs x lawful image cut
