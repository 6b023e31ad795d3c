use Rattle.std.proofs.Common.{take}
use Rattle.bd_sim.specs.Journal.{State, IsRead, after_each}
use Rattle.bd_sim.proofs.journal.replay.Given as goal

abbrev pub invariant-loop-noted : goal.invariant-loop-noted
invariant-loop-noted l = (s : State) → IsRead (s.reads l.area) l.at l.initial.out → IsRead ((after_each s (take l.noted-index l.journal)).reads l.area) l.at l.out
