use Rattle.std.proofs.Common.{IsTrue}
use Rattle.cuts.proofs.Starts.{reaches}
use Rattle.cuts.proofs.law.law_of_starts.Goals as goal

pub returns : goal.returns
returns c = λ size s P xs start lawful orderly k le. (reaches size xs s (λ q. IsTrue (P q)) start lawful orderly k le).start
