use Rattle.std.proofs.Common.{◌≡◌, Some, sym, arith, ◌∙◌}
use Rattle.std.specs.Prelude.{slice_get}
use Rattle.std.proofs.lemmas.Option.{slice_get_within, get_or_from_slice_get}
use Rattle.bd_dev.specs.Sink.{AppendsFront}
use Rattle.tlvinfo.specs.TlvInfo.{Field}
use Rattle.onie_cli.specs.Eeprom.{field_line, fields_text}
use Rattle.bd_dev.proofs.Lines.{OnErr-always, front_of_a_line, one_more_line}
use Rattle.onie_modes.proofs.Outcomes.{handed_back}
use Rattle.onie_modes.proofs.WholeLines.{first_lines}
use Rattle.onie_cli.proofs.FieldLines.{field_ends}
use Rattle.onie_cli.proofs.eeprom.print_fields.Goals as goal

pub returns-in_err-print_field-clause-front : goal.returns-in_err-print_field-clause-front
returns-in_err-print_field-clause-front g c =
    let field : Field = record { code = c.in-Some.code; value = c.in-Some.value.now } in
    let read : slice_get c.args.info.now c.loop-code.place ≡ Some field = sym c.in-Some.ensures.field in
    let front : AppendsFront (g.C.Sink.taken c.args.console.now) (g.C.Sink.taken c.print_field.new.console) (fields_text c.args.info.now) =
    front_of_a_line field_line _ _ _ c.args.info.now c.loop-code.place field (slice_get_within _ _ field read) (sym (get_or_from_slice_get c.args.info.now c.loop-code.place field field read)) c.loop-code.invariant.1 c.in_err-print_field.ensures.front in
    OnErr-always _ front

pub returns-in_err-print_field-clause-whole : goal.returns-in_err-print_field-clause-whole
returns-in_err-print_field-clause-whole g c = λ memory.
    first_lines field_line _ _ _ c.args.info.now c.loop-code.place field_ends c.loop-code.invariant.1
    (c.in_err-print_field.ensures.unprinted (handed_back c.from_residual.result c.in_err-print_field.field-0.0 _ c.from_residual.ensures.1 memory))

pub loop-code-preserved : goal.loop-code-preserved
loop-code-preserved g c =
    let field : Field = record { code = c.in-Some.code; value = c.in-Some.value.now } in
    let read : slice_get c.args.info.now c.loop-code.place ≡ Some field = sym c.in-Some.ensures.field in
    let within = slice_get_within _ _ field read in (
      omega (arith, within),
      one_more_line field_line _ _ _ c.args.info.now c.loop-code.place field within (sym (get_or_from_slice_get c.args.info.now c.loop-code.place field field read)) c.loop-code.invariant.1 c.in_ok-print_field.ensures.line,
      c.in_ok-print_field.ensures.cause.quiet (λ e. cc) ∙ c.loop-code.invariant.2,
    )
