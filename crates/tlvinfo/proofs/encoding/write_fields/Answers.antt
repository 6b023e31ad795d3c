use Rattle.std.proofs.Common.{◌≡◌, ◌+◌, ◌-◌, ◌≤◌, List, ℕ, length, take, drop, sym, ap, ◌∙◌, arith, length-append, length-drop, length-take}
use Rattle.tlvinfo.specs.TlvInfo.{field_bytes, joined}
use Rattle.tlvinfo.specs.Encoding.{overwritten}
use Rattle.tlvinfo.specs.View.{entry_field, fields_of}
use Rattle.tlvinfo.proofs.Joined.{joined_more, joined_more-le}
use Rattle.tlvinfo.proofs.Writes.{overwritten-next}
use Rattle.tlvinfo.proofs.encoding.write_fields.Goals as goal

pub write_field-requires : goal.write_field-requires
write_field-requires c =
    let out = c.loop-entry.out in
    let at = c.loop-entry.at in
    let room = joined_more-le c.args.entries.now c.loop-entry.entry-index c.entry-item.result c.loop-entry-test.true c.entry-item.is in
    omega (arith, room, c.loop-entry.invariant.0, c.requires, c.loop-entry.auto.out, length-take (length out - at) (drop at out), length-drop at out)

pub loop-entry-preserved : goal.loop-entry-preserved
loop-entry-preserved c =
    let out = c.loop-entry.out in
    let at = c.loop-entry.at in
    let entries = c.args.entries.now in
    let i = c.loop-entry.entry-index in
    let entry = c.entry-item.result in
    let room = joined_more-le entries i entry c.loop-entry-test.true c.entry-item.is in
    let more = joined_more entries i entry c.loop-entry-test.true c.entry-item.is in
    let first = joined (fields_of (take i entries)) in
    let second = field_bytes (entry_field entry) in
    let inside : at + (length out - at) ≡ length out = omega (arith, room, c.loop-entry.invariant.0, c.requires, c.loop-entry.auto.out) in
    let fits : length second ≤ length out - at = omega (arith, room, c.loop-entry.invariant.0, c.requires, c.loop-entry.auto.out) in (
      omega (arith, ap length more, length-append first second, c.len.ensures.value, c.loop-entry.invariant.0),
      overwritten-next at (length out - at) out c.write_field.new.out first second c.args.out.now c.loop-entry.invariant.1 c.loop-entry.invariant.0 inside fits c.write_field.ensures ∙ ap (λ (l : List ℕ). overwritten l c.args.out.now) (sym more),
    )
