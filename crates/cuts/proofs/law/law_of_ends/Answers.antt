use Rattle.std.proofs.Common.{IsTrue}
use Rattle.cuts.proofs.Whole.{boots_end}
use Rattle.cuts.proofs.law.law_of_ends.Goals as goal

pub returns : goal.returns
returns c = λ size s P xs start lawful orderly image cut. boots_end size s (λ q. IsTrue (P q)) xs image start lawful orderly cut
