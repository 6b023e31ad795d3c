use Rattle.std.proofs.Common.{◌-◌, ◌≤◌, length, take}
use Rattle.storage_model.specs.Variables.{IsText}
use Rattle.boot_vars.proofs.lines.first_bad_line.Given as goal

abbrev pub invariant-lines : goal.invariant-lines
invariant-lines l = record { within : l.at ≤ length l.text; good : IsText (take l.at l.text) }

abbrev pub decreases-lines : goal.decreases-lines
decreases-lines l = length l.text - l.at
