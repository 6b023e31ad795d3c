use Rattle.std.proofs.Common.{◌≡◌, ◌≤◌, ◌-◌, length, take}
use Rattle.bd_dev.specs.Sink.{Appends}
use Rattle.onie_cli.specs.Eeprom.{fields_text}
use Rattle.onie_cli.proofs.eeprom.print_fields.Given as goal

abbrev pub invariant-loop-code : goal.invariant-loop-code
invariant-loop-code g l =
    (l.place ≤ length l.info)
    × Appends (g.C.Sink.taken l.fn.console) (g.C.Sink.taken l.console) (fields_text (take l.place l.info))
    × (g.C.Sink.faults l.console ≡ g.C.Sink.faults l.fn.console)

abbrev pub decreases-loop-code : goal.decreases-loop-code
decreases-loop-code g l = length l.info - l.place
