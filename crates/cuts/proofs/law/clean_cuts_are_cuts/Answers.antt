use Rattle.std.proofs.Common.{IsTrue}
use Rattle.cuts.proofs.Plain.{plain}
use Rattle.cuts.proofs.law.clean_cuts_are_cuts.Goals as goal

pub returns : goal.returns
returns c = λ size s P x image may clean. plain size s (λ q. IsTrue (P q)) x image may clean
