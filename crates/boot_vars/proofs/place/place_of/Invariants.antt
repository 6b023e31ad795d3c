use Rattle.std.proofs.Common.{◌-◌, ◌≤◌, length}
use Rattle.boot_vars.proofs.Places.{IsPassed}
use Rattle.boot_vars.proofs.place.place_of.Given as goal

abbrev pub invariant-lines : goal.invariant-lines
invariant-lines l = record { within : l.at ≤ length l.text; passed : IsPassed l.text l.name l.at }

abbrev pub decreases-lines : goal.decreases-lines
decreases-lines l = length l.text - l.at
