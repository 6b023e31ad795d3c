-- How long the values of single codes of the TlvInfo format are.
use Rattle.std.proofs.Common.{◌≡◌, ℕ, true, arith}
use Rattle.std.proofs.lemmas.Bool.Decides.{nat_tests}
use Rattle.bd_codes.specs.TlvTable.{tlv_rows, allows}

-- a checksum has four bytes
pub allows-checksum : (length : ℕ) → allows 0xfe length ≡ true → length ≡ 4
unfolding tlv_rows
allows-checksum length h = grind (arith, nat_tests)

-- a MAC address has six bytes
pub allows-mac : (length : ℕ) → allows 0x24 length ≡ true → length ≡ 6
unfolding tlv_rows
allows-mac length h = grind (arith, nat_tests)
