use Rattle.std.proofs.Common.{length, sym, ◌∙◌}
use Rattle.hex.specs.Hex.{decode_sized}
use Rattle.tlv_text.specs.Spelled.{SpellsPairs}
use Rattle.tlv_text.proofs.Hexadecimal.{OnSome-if, SpellsPairs-decoded, decode_sized-spelled, read_as, read_ok}
use Rattle.tlv_text.proofs.read.fill.Goals as goal

pub returns-clause-sound : goal.returns-clause-sound
returns-clause-sound c =
    let room = length c.args.bytes.now in
    let written = c.decode_to_slice.new.out in
    OnSome-if c.ok.result (SpellsPairs written c.args.text.now) (λ some.
    let read = read_ok (decode_sized c.args.text.now room) c.decode_to_slice.result written c.decode_to_slice.ensures.value (sym c.ok.ensures.variant ∙ some) in
    SpellsPairs-decoded c.args.text.now written room read)

pub returns-clause-only : goal.returns-clause-only
returns-clause-only c = λ value spelled.
    let room = length c.args.bytes.now in
    let read = decode_sized-spelled value c.args.text.now room (sym c.requires) spelled in
    let done = read_as (decode_sized c.args.text.now room) c.decode_to_slice.result c.decode_to_slice.new.out value c.decode_to_slice.ensures.value read in
    (c.ok.ensures.variant ∙ done.0, done.1)
