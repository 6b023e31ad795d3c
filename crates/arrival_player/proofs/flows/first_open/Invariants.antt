use Rattle.std.proofs.Common.{◌-◌, length}
use Rattle.arrival_player.specs.Flows.{AreClosed}
use Rattle.arrival_player.proofs.flows.first_open.Given as goal

abbrev pub invariant-loop-number : goal.invariant-loop-number
invariant-loop-number l = AreClosed l.flows l.number

abbrev pub decreases-loop-number : goal.decreases-loop-number
decreases-loop-number l = length l.flows - l.number
