use Rattle.waits.proofs.Decided.{is_by_places}
use Rattle.waits.proofs.law.law_of_places.Goals as goal

pub returns : goal.returns
returns g c = λ ex timely steady w arrivals. is_by_places ex timely steady w arrivals
