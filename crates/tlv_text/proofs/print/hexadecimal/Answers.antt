use Rattle.std.proofs.Common.{◌≡◌, length-append, take, ap, ◌∙◌, arith}
use Rattle.std.proofs.lemmas.List.{take_all}
use Rattle.hex.specs.Hex.{IsBytes, encode_lower, encode_with}
use Rattle.tlv_text.proofs.Hexadecimal.{SpellsHexadecimal-printed, encode_lower-more, length-printed}
use Rattle.tlv_text.proofs.print.hexadecimal.Goals as goal

pub loop-byte-init : goal.loop-byte-init
unfolding encode_with
loop-byte-init c = c.new-text.ensures

pub push_ascii-requires-clause-room : goal.push_ascii-requires-clause-room
push_ascii-requires-clause-room c = let long = length-printed _ _ _ c.loop-byte.invariant in omega arith

pub push_ascii-requires-in-loop-byte-clause-room : goal.push_ascii-requires-in-loop-byte-clause-room
push_ascii-requires-in-loop-byte-clause-room c =
    let long = length-printed _ _ _ c.loop-byte.invariant in
    simp (c.push_ascii.ensures, length-append) (omega arith)

pub loop-byte-preserved : goal.loop-byte-preserved
loop-byte-preserved c =
    rw (c.push_ascii-in-loop-byte.ensures, c.push_ascii.ensures, c.digit.ensures.digit, c.digit-in-loop-byte.ensures.digit)
    (encode_lower-more c.args.value.now c.loop-byte.byte-index c.loop-byte.text.bytes c.loop-byte-test.true c.loop-byte.invariant)

pub returns-clause-spelled : goal.returns-clause-spelled
returns-clause-spelled c =
    let small : IsBytes c.args.value.now = λ k. omega (arith, c.type_inv.value k) in
    let all : take c.loop-byte.byte-index c.args.value.now ≡ c.args.value.now = take_all c.loop-byte.byte-index c.args.value.now c.loop-byte-test.false in
    SpellsHexadecimal-printed c.args.value.now c.loop-byte.text.bytes c.requires small (c.loop-byte.invariant ∙ ap encode_lower all)
