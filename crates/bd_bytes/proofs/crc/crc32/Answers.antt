use Rattle.std.proofs.Common.{◌≡◌, ◌+◌, ◌∷◌, get_or, drop, ◌∙◌, arith, add-one, drop-cons}
use Rattle.std.proofs.lemmas.List.{drop_all}
use Rattle.bd_bytes.proofs.Division.{remainder_with-message, crc32_of-register}
use Rattle.bd_bytes.proofs.crc.crc32.Goals as goal

pub loop-byte-preserved : goal.loop-byte-preserved
loop-byte-preserved c =
    let i = c.loop-byte.byte-index in
    let bytes = c.args.bytes.now in
    let front : drop i bytes ≡ get_or bytes i 0 ∷ drop (i + 1) bytes = rw add-one (drop-cons bytes i 0 c.loop-byte-test.true) in
    (omega arith, c.loop-byte.invariant.1 ∙ rw front (remainder_with-message (get_or bytes i 0) (drop (i + 1) bytes) c.loop-byte.register c.after_byte-register.result c.after_byte-register.ensures))

pub returns : goal.returns
returns c =
    let left = drop c.loop-byte.byte-index c.args.bytes.now in
    crc32_of-register c.loop-byte.register c.args.bytes.now left c.loop-byte.invariant.0 (drop_all c.loop-byte.byte-index c.args.bytes.now c.loop-byte-test.false) c.loop-byte.invariant.1
