-- The statuses of the top call.
use Rattle.std.specs.Prelude.{ℕ}
use Rattle.onie_modes.specs.declared.exit.Status.{Status}
use Rattle.onie_modes.specs.declared.exit.Status.TheVariants as statuses

-- the exit status of the program
abbrev pub number_of : Status → ℕ
number_of (statuses.Done outcome) = 0
number_of statuses.Usage = 2
number_of (statuses.NotSound kind) = 3
number_of (statuses.BadEeprom kind) = 4
number_of (statuses.BadScript line kind) = 5
number_of statuses.PlantFault = 6
number_of statuses.EepromFault = 7
number_of statuses.MediaFault = 8
number_of statuses.SourceFault = 9
number_of statuses.SinkFault = 10
number_of (statuses.Refused kind) = 12
number_of statuses.Memory = 13
