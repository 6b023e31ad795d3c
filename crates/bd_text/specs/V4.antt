-- IPv4 addresses as text: four decimal numbers with a dot between each two (RFC 3986, section
-- 3.2.2).
use Rattle.std.specs.Prelude.{◌≡◌, ℕ, List, length, map}
use Rattle.std.specs.List.{join_with_byte}
use Rattle.bd_text.specs.Digits.{shortest}
use Rattle.bd_text.specs.Marks.{dot}
use Rattle.bd_text.specs.Octet.{SpellsOctet}
use Rattle.bd_text.specs.Parts.{SpellsJoined}
use Rattle.bd_text.specs.declared.digits.Case.TheVariants.{Lower}

-- four bytes, each as a decimal number, with `.` between each two
pub record SpellsV4 (bytes text : List ℕ) : Type 0 where
  pub four : length bytes ≡ 4
  pub octets : SpellsJoined SpellsOctet dot bytes text

-- the one spelling
abbrev pub v4_text : List ℕ → List ℕ
v4_text bytes = join_with_byte dot (map (shortest Lower 10) bytes)
