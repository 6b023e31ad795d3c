use Rattle.std.proofs.Common.{IsTrue}
use Rattle.cuts.proofs.Whole.{holds_state}
use Rattle.cuts.proofs.law.law_of_success.Goals as goal

pub returns : goal.returns
returns c = λ size s P xs own none image cut. holds_state size s (λ q. IsTrue (P q)) xs own none image cut
