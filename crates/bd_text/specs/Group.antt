-- A group of an IPv6 address in hexadecimal digits (RFC 4291, section 2.2).
use Rattle.std.specs.Prelude.{ℕ, ◌<◌, ◌≤◌, List, length}
use Rattle.bd_text.specs.Digits.{Writes}

-- one to four hexadecimal digits, in either case
pub record SpellsGroup (group : ℕ) (text : List ℕ) : Type 0 where
  pub some : 0 < length text
  pub few : length text ≤ 4
  pub hex : Writes 16 group text
