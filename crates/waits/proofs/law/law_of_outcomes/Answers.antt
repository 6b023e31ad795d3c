use Rattle.waits.proofs.Found.{comes_to}
use Rattle.waits.proofs.law.law_of_outcomes.Goals as goal

pub returns : goal.returns
returns g c = λ ex timely w arrivals. comes_to ex timely w arrivals
