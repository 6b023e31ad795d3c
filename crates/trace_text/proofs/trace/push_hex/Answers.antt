use Rattle.std.proofs.Common.{◌/◌, ◌%◌, [], ◌∷◌, get_or}
use Rattle.std.proofs.lemmas.List.{get_or_default}
use Rattle.trace_text.specs.TraceText.{digit}
use Rattle.trace_text.proofs.Growing.{one_more, renamed}
use Rattle.trace_text.proofs.trace.push_hex.Goals as goal

pub loop-byte-preserved : goal.loop-byte-preserved
loop-byte-preserved c =
    let bytes = c.args.bytes.now in
    let byte = get_or bytes c.loop-byte.byte-index 0 in
    one_more (λ byte. digit (byte / 16) ∷ digit (byte % 16) ∷ []) c.args.text.now c.loop-byte.text c.push_slice.new.self bytes c.loop-byte.byte-index byte
    c.loop-byte-test.true (get_or_default bytes c.loop-byte.byte-index 0 byte c.loop-byte-test.true) c.loop-byte.invariant
    (renamed c.loop-byte.text (λ i. c.digit.ensures i ∷ c.digit-in-loop-byte.ensures i ∷ []) c.in_ok-push_slice.ensures.pushed)
