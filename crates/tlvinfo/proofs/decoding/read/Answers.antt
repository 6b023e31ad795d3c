use Rattle.std.proofs.Common.{◌≡◌, ◌+◌, ◌++◌, ◌∷◌, [], length, take, drop, refl, sym, ap, ◌∙◌, arith, length-take, length-drop}
use Rattle.std.proofs.lemmas.List.{map-append}
use Rattle.bd_bytes.specs.Cursor.{passed}
use Rattle.tlvinfo.specs.TlvInfo.{Field}
use Rattle.std.proofs.lemmas.Result.{err_from_is_err_and}
use Rattle.tlvinfo.specs.View.{entry_field, fields_of}
use Rattle.tlvinfo.specs.RawView.{field_of}
use Rattle.tlvinfo.proofs.DecodeLoop.{Reads-first, Reads-next, Reads-last, Reads-fails, header_fails}
use Rattle.tlvinfo.proofs.Soundness.{is_sound}
use Rattle.tlvinfo.proofs.decoding.read.Goals as goal

pub returns-in_err-total : goal.returns-in_err-total
returns-in_err-total c =
    let p = err_from_is_err_and c.from_residual.result c.from_residual.ensures.1 in
    rw (p.1, p.2) (header_fails c.args.bytes.now c.in_err-total.field-0.0 (sym c.in_err-total.ensures.exact))

pub loop-entries-init : goal.loop-entries-init
loop-entries-init c =
    let bytes = c.args.bytes.now in
    let total = c.in_ok-total.total in
    let whole = take (11 + total) bytes in
    let moved : c.take.new.self ≡ record { place = 11; left = drop 11 whole } = rw c.unwrap-header.ensures at c.take.ensures.moved ∙ ap (passed 11) c.new-cursor.ensures in
    let len : length (drop 11 whole) ≡ total = omega (arith, c.in_ok-total.ensures.inside, length-drop 11 whole, length-take (11 + total) bytes) in
    rw (moved, c.in_ok-entries.ensures.items) (
      Reads-first bytes whole total (sym c.in_ok-total.ensures.exact) (omega (arith, c.in_ok-total.ensures.inside)) refl,
      omega (arith, len, c.in_ok-entries.ensures.len),
      omega (arith, c.in_ok-entries.ensures.exact),
    )

pub returns-in_err-field : goal.returns-in_err-field
returns-in_err-field c =
    let p = err_from_is_err_and c.from_residual-in_err-field.result c.from_residual-in_err-field.ensures.1 in
    rw (p.1, p.2) (Reads-fails _ _ _ _ _ _ c.loop-entries.invariant.0 (rw c.deref.ensures.value at c.in_err-field.ensures.exact))

pub loop-entries-preserved : goal.loop-entries-preserved
loop-entries-preserved c =
    let f = field_of c.in-Some.field in
    let before = c.loop-entries.entries.items in
    let read = rw (c.in-Some.is, c.deref.ensures.value) at c.in_ok-field.ensures.exact in
    let moved = rw c.in-Some.is at c.in_ok-field.ensures.moved in
    let size = rw c.in-Some.is at c.in_ok-field.ensures.size in
    let pushed = rw c.unwrap.ensures at c.push.ensures.items in
    let fields : fields_of c.push.new.self.items ≡ fields_of before ++ f ∷ [] = ap fields_of pushed ∙ map-append entry_field before (c.entry.result ∷ []) ∙ ap (λ (g : Field). fields_of before ++ g ∷ []) c.entry.ensures in
    let left = c.loop-entries.cursor.left in
    let longer = rw c.unwrap.ensures at c.push.ensures.len in
    let room = c.loop-entries.invariant.1 in
    let capacity = c.loop-entries.invariant.2 in
    rw (moved, fields) (
      Reads-next _ _ _ left _ f (drop (2 + length f.value) left) c.loop-entries.invariant.0 size.0 read refl,
      omega (arith, size.0, longer, room, length-drop (2 + length f.value) left),
      omega (arith, capacity, c.push.ensures.capacity),
    )

pub new-requires : goal.new-requires
new-requires c =
    let read = rw (c.in_default.is, c.deref.ensures.value) at c.in_ok-field.ensures.exact in
    (is_sound c.args.bytes.now (fields_of c.loop-entries.entries.items) (λ i. omega (arith, c.type_inv.bytes i)) (Reads-last _ _ _ _ _ c.loop-entries.invariant.0 read)).fields

pub returns : goal.returns
returns c =
    let read = rw (c.in_default.is, c.deref.ensures.value) at c.in_ok-field.ensures.exact in
    rw c.new.ensures (Reads-last _ _ _ _ _ c.loop-entries.invariant.0 read)
