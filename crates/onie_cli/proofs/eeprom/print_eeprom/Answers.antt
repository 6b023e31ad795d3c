use Rattle.std.proofs.Common.{Err, ap, sym, subst, ◌∙◌}
use Rattle.onie_modes.specs.Devices.{seen, with_console, with_eeprom}
use Rattle.onie_modes.specs.Running.{Runs}
use Rattle.onie_modes.specs.declared.exit.Status.{Status}
use Rattle.onie_cli.specs.Eeprom.{prints_fields}
use Rattle.onie_cli.proofs.PrintingFields.{ends_printed, ends_unprinted, ends_unremembered, ends_without_fields}
use Rattle.onie_cli.proofs.eeprom.print_eeprom.Goals as goal

pub returns-in-Err-clause-runs : goal.returns-in-Err-clause-runs
returns-in-Err-clause-runs g c = λ d.
    subst (λ (s : Status). Runs prints_fields (with_eeprom (with_console d (seen (g.C.Sink.taken c.args.console.now) (g.C.Sink.faults c.args.console.now))) (seen (g.E.Eeprom.content c.args.eeprom.now) (g.E.Eeprom.faults c.args.eeprom.now))) (with_eeprom (with_console d (seen (g.C.Sink.taken c.args.console.now) (g.C.Sink.faults c.args.console.now))) (seen (g.E.Eeprom.content c.load_info.new.eeprom) (g.E.Eeprom.faults c.load_info.new.eeprom))) s) (sym c.status.ensures)
    (ends_without_fields (with_eeprom (with_console d (seen (g.C.Sink.taken c.args.console.now) (g.C.Sink.faults c.args.console.now))) (seen (g.E.Eeprom.content c.args.eeprom.now) (g.E.Eeprom.faults c.args.eeprom.now))) (seen (g.E.Eeprom.content c.load_info.new.eeprom) (g.E.Eeprom.faults c.load_info.new.eeprom)) c.in-Err.fault c.in-Err.ensures.cause c.load_info.ensures.kept
    (λ kind e. c.in-Err.ensures.refused kind (ap Err e)) (λ kind e. c.in-Err.ensures.tlv kind (ap Err e)))

pub returns-in-Ok-print_fields-clause-runs : goal.returns-in-Ok-print_fields-clause-runs
returns-in-Ok-print_fields-clause-runs g c = λ d.
    ends_printed _ _ _ c.in-Ok.info (record { found = c.in-Ok.ensures.found; kept = c.load_info.ensures.kept; quiet = c.in-Ok.ensures.cause.quiet (λ e. cc) })
    (c.in-Ok-print_fields.ensures.cause.quiet (λ e. cc)) c.in-Ok-print_fields.ensures.lines

pub returns-in-Err-Failed-clause-runs : goal.returns-in-Err-Failed-clause-runs
returns-in-Err-Failed-clause-runs g c = λ d.
    ends_unprinted _ _ _ c.in-Ok.info (record { found = c.in-Ok.ensures.found; kept = c.load_info.ensures.kept; quiet = c.in-Ok.ensures.cause.quiet (λ e. cc) })
    c.print_fields.ensures.cause.later (c.print_fields.ensures.cause.failed (c.in-Err-Failed.is ∙ ap Err c.in-Err-Failed.field-0-is)) c.in-Err-Failed.ensures.front

pub returns-clause-runs : goal.returns-clause-runs
returns-clause-runs g c = λ d.
    ends_unremembered _ _ _ c.in-Ok.info (record { found = c.in-Ok.ensures.found; kept = c.load_info.ensures.kept; quiet = c.in-Ok.ensures.cause.quiet (λ e. cc) })
    (c.print_fields.ensures.cause.quiet (λ e. cc)) c.in-Err-Memory.ensures.front (c.print_fields.ensures.whole (c.in-Err-Memory.is ∙ ap Err c.in-Err-Memory.field-0-is))
