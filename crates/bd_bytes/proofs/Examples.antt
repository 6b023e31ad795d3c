-- Worked values of CRC-32.
use Rattle.std.proofs.Common.{◌≡◌, [], refl}
use Rattle.std.specs.Prelude.{codes}
use mathlib.Core.Bool.{xor}
use Rattle.bd_bytes.specs.Crc.{bits, number, add, generator, divide, remainder, complement, message, crc32_of}

-- the check value that catalogues of such codes list
check_value : crc32_of (codes "123456789") ≡ 0xcbf4_3926
unfolding crc32_of complement remainder message divide generator add number bits xor
check_value = refl

-- no bytes
check_empty : crc32_of [] ≡ 0
unfolding crc32_of complement remainder message divide generator add number bits xor
check_empty = refl
