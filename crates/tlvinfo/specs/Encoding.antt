-- The spelling of fields at the front of an EEPROM, and the checksum that ends it.
use Rattle.std.specs.Prelude.{◌≡◌, ℕ, List, [], ◌∷◌, ◌++◌, length, take, drop}
use Rattle.byteorder.specs.Endian.{big_bytes}
use Rattle.bd_bytes.specs.Crc.{crc32_of}

-- the bytes with others in place of as many at their front
abbrev pub overwritten : List ℕ → List ℕ → List ℕ
overwritten front bytes = front ++ drop (length front) bytes

-- the checksum's field after these bytes
abbrev pub ending : List ℕ → List ℕ
ending front = 0xfe ∷ 4 ∷ big_bytes 4 (crc32_of (front ++ 0xfe ∷ 4 ∷ []))

-- the first bytes of both, so many, are the same
abbrev pub BeginSame : List ℕ → List ℕ → ℕ → Type 0
BeginSame xs ys size = take size xs ≡ take size ys
