use Rattle.std.proofs.Common.{◌-◌, length, map}
use Rattle.arrival_player.specs.Earliest.{FirstBelow, next_time_of}
use Rattle.arrival_player.proofs.flows.earliest.Given as goal

abbrev pub invariant-loop-number : goal.invariant-loop-number
invariant-loop-number l = record {
  below : FirstBelow l.late l.until (map next_time_of l.flows) l.number l.best;
}

abbrev pub decreases-loop-number : goal.decreases-loop-number
decreases-loop-number l = length l.flows - l.number
