use Rattle.std.proofs.Common.{IsTrue}
use Rattle.cuts.proofs.Booting.{boots}
use Rattle.cuts.proofs.law.law_of_cuts.Goals as goal

pub returns : goal.returns
returns c = λ size s P xs start lawful orderly k le image cut. boots size s (λ q. IsTrue (P q)) xs start lawful orderly k le image cut
