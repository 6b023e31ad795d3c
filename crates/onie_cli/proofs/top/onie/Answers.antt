use Rattle.std.proofs.Common.{Some, ap, ◌∙◌}
use Rattle.onie_modes.specs.Devices.{devices, seen}
use Rattle.onie_modes.specs.declared.exit.Status.TheVariants as statuses
use Rattle.onie_cli.specs.declared.words.Command.{Command as Read}
use Rattle.onie_cli.specs.Words.{PrintFields, SetField, SetVariable, ShowStatus, UnsetVariable, Usage, command_of}
use Rattle.onie_cli.proofs.Reporting.{does_of, runs_usage}
use Rattle.onie_cli.proofs.top.onie.Goals as goal

pub returns-in-Some-Status-clause-does : goal.returns-in-Some-Status-clause-does
returns-in-Some-Status-clause-does g c =
    let is = c.read_words.ensures ∙ ap command_of c.in-Some-Status.is ∙ ap (λ (r : Read). command_of (Some r)) c.in-Some-Status.field-0-is in
    does_of _ ShowStatus _ _ _ _ _ is c.show_status-status.result (seen (g.C.Sink.taken c.show_status-status.new.console) (g.C.Sink.faults c.show_status-status.new.console)) (c.show_status-status.ensures.runs (devices (g.P.Plant.view c.args.plant.now).faults (seen (g.E.Eeprom.content c.args.eeprom.now) (g.E.Eeprom.faults c.args.eeprom.now)) (seen (g.M.Media.content c.args.media.now) (g.M.Media.faults c.args.media.now)) (seen (g.S.Source.left c.args.script.now) (g.S.Source.faults c.args.script.now)) (seen (g.C.Sink.taken c.args.console.now) (g.C.Sink.faults c.args.console.now)) (seen (g.T.Sink.taken c.args.trace.now) (g.T.Sink.faults c.args.trace.now)))) c.report.ensures.reports

pub returns-in-Some-Eeprom-clause-does : goal.returns-in-Some-Eeprom-clause-does
returns-in-Some-Eeprom-clause-does g c =
    let is = c.read_words.ensures ∙ ap command_of c.in-Some-Eeprom.is ∙ ap (λ (r : Read). command_of (Some r)) c.in-Some-Eeprom.field-0-is in
    does_of _ PrintFields _ _ _ _ _ is c.print_eeprom-status.result (seen (g.C.Sink.taken c.print_eeprom-status.new.console) (g.C.Sink.faults c.print_eeprom-status.new.console)) (c.print_eeprom-status.ensures.runs (devices (g.P.Plant.view c.args.plant.now).faults (seen (g.E.Eeprom.content c.args.eeprom.now) (g.E.Eeprom.faults c.args.eeprom.now)) (seen (g.M.Media.content c.args.media.now) (g.M.Media.faults c.args.media.now)) (seen (g.S.Source.left c.args.script.now) (g.S.Source.faults c.args.script.now)) (seen (g.C.Sink.taken c.args.console.now) (g.C.Sink.faults c.args.console.now)) (seen (g.T.Sink.taken c.args.trace.now) (g.T.Sink.faults c.args.trace.now)))) c.report-in-Some-Eeprom.ensures.reports

pub returns-in-Some-EepromSet-clause-does : goal.returns-in-Some-EepromSet-clause-does
returns-in-Some-EepromSet-clause-does g c =
    let is = c.read_words.ensures ∙ ap command_of c.in-Some-EepromSet.is ∙ ap (λ (r : Read). command_of (Some r)) c.in-Some-EepromSet.field-0-is in
    does_of _ (SetField c.in-Some-EepromSet.code c.in-Some-EepromSet.text.now) _ _ _ _ _ is c.set_field-status.result (seen (g.C.Sink.taken c.args.console.now) (g.C.Sink.faults c.args.console.now)) (c.set_field-status.ensures.runs (devices (g.P.Plant.view c.args.plant.now).faults (seen (g.E.Eeprom.content c.args.eeprom.now) (g.E.Eeprom.faults c.args.eeprom.now)) (seen (g.M.Media.content c.args.media.now) (g.M.Media.faults c.args.media.now)) (seen (g.S.Source.left c.args.script.now) (g.S.Source.faults c.args.script.now)) (seen (g.C.Sink.taken c.args.console.now) (g.C.Sink.faults c.args.console.now)) (seen (g.T.Sink.taken c.args.trace.now) (g.T.Sink.faults c.args.trace.now)))) c.report-in-Some-EepromSet.ensures.reports

pub returns-in-Some-Set-clause-does : goal.returns-in-Some-Set-clause-does
returns-in-Some-Set-clause-does g c =
    let is = c.read_words.ensures ∙ ap command_of c.in-Some-Set.is ∙ ap (λ (r : Read). command_of (Some r)) c.in-Some-Set.field-0-is in
    does_of _ (SetVariable c.in-Some-Set.name.now c.in-Some-Set.value.now) _ _ _ _ _ is c.set_variable-status.result (seen (g.C.Sink.taken c.args.console.now) (g.C.Sink.faults c.args.console.now)) (c.set_variable-status.ensures.runs (devices (g.P.Plant.view c.args.plant.now).faults (seen (g.E.Eeprom.content c.args.eeprom.now) (g.E.Eeprom.faults c.args.eeprom.now)) (seen (g.M.Media.content c.args.media.now) (g.M.Media.faults c.args.media.now)) (seen (g.S.Source.left c.args.script.now) (g.S.Source.faults c.args.script.now)) (seen (g.C.Sink.taken c.args.console.now) (g.C.Sink.faults c.args.console.now)) (seen (g.T.Sink.taken c.args.trace.now) (g.T.Sink.faults c.args.trace.now)))) c.report-in-Some-Set.ensures.reports

pub returns-in-Some-Unset-clause-does : goal.returns-in-Some-Unset-clause-does
returns-in-Some-Unset-clause-does g c =
    let is = c.read_words.ensures ∙ ap command_of c.in-Some-Unset.is ∙ ap (λ (r : Read). command_of (Some r)) c.in-Some-Unset.field-0-is in
    does_of _ (UnsetVariable c.in-Some-Unset.name.now) _ _ _ _ _ is c.unset_variable-status.result (seen (g.C.Sink.taken c.args.console.now) (g.C.Sink.faults c.args.console.now)) (c.unset_variable-status.ensures.runs (devices (g.P.Plant.view c.args.plant.now).faults (seen (g.E.Eeprom.content c.args.eeprom.now) (g.E.Eeprom.faults c.args.eeprom.now)) (seen (g.M.Media.content c.args.media.now) (g.M.Media.faults c.args.media.now)) (seen (g.S.Source.left c.args.script.now) (g.S.Source.faults c.args.script.now)) (seen (g.C.Sink.taken c.args.console.now) (g.C.Sink.faults c.args.console.now)) (seen (g.T.Sink.taken c.args.trace.now) (g.T.Sink.faults c.args.trace.now)))) c.report-in-Some-Unset.ensures.reports

pub returns-in-None-clause-does : goal.returns-in-None-clause-does
returns-in-None-clause-does g c =
    does_of _ Usage _ _ _ _ _ (c.read_words.ensures ∙ ap command_of c.in-None.is) statuses.Usage (seen (g.C.Sink.taken c.args.console.now) (g.C.Sink.faults c.args.console.now)) (runs_usage (devices (g.P.Plant.view c.args.plant.now).faults (seen (g.E.Eeprom.content c.args.eeprom.now) (g.E.Eeprom.faults c.args.eeprom.now)) (seen (g.M.Media.content c.args.media.now) (g.M.Media.faults c.args.media.now)) (seen (g.S.Source.left c.args.script.now) (g.S.Source.faults c.args.script.now)) (seen (g.C.Sink.taken c.args.console.now) (g.C.Sink.faults c.args.console.now)) (seen (g.T.Sink.taken c.args.trace.now) (g.T.Sink.faults c.args.trace.now)))) c.report-in-None.ensures.reports
