-- A byte in decimal digits (RFC 3986, section 3.2.2, dec-octet).
use Rattle.std.specs.Prelude.{◌≡◌, ℕ, ◌<◌, ◌≤◌, List, length, slice_index}
use Rattle.bd_text.specs.Digits.{Writes}

-- one to three decimal digits of a number below 256, the first of which is 0 only where it is the
-- one digit
pub record SpellsOctet (octet : ℕ) (text : List ℕ) : Type 0 where
  pub some : 0 < length text
  pub few : length text ≤ 3
  pub unpadded : slice_index text 0 ≡ 48 → length text ≡ 1
  pub decimal : Writes 10 octet text
  pub small : octet < 256
