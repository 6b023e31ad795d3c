-- How large a checksum is.
use Rattle.std.proofs.Common.{◌≡◌, ℕ, ◌+◌, ◌^◌, ◌<◌, false, true, List, ◌++◌, length, ◌∙◌, length-append, arith}
use Rattle.std.specs.Prelude.{replicate}
use Rattle.bd_bytes.specs.Crc.{remainder, complement, message, crc32_of}
use Rattle.bd_bytes.proofs.Bits.{number-lt}
use Rattle.bd_bytes.proofs.Polynomial.{length-add, length-remainder}

-- a checksum has 32 bits
pub crc32_of-lt : (bytes : List ℕ) → crc32_of bytes < 2 ^ 32
unfolding crc32_of complement
crc32_of-lt bytes =
    let p = message bytes ++ replicate 32 false in
    let long : length (complement p) ≡ length (message bytes) + 32 =
    length-add p (replicate 32 true) ∙ length-append (message bytes) (replicate 32 false) in
    let same : length (complement (remainder (complement p))) ≡ 32 =
    length-add (remainder (complement p)) (replicate 32 true) ∙ length-remainder (complement p) (omega arith) in
    rw same at (number-lt (complement (remainder (complement p))))
