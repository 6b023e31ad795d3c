-- Ethernet addresses as text: six pairs of hexadecimal digits with a colon between each two.
use Rattle.std.specs.Prelude.{◌≡◌, ℕ, List, length, map}
use Rattle.std.specs.List.{join_with_byte}
use Rattle.bd_text.specs.Digits.{SpellsHex, numeral}
use Rattle.bd_text.specs.declared.digits.Case.TheVariants.{Upper}
use Rattle.bd_text.specs.Marks.{colon}
use Rattle.bd_text.specs.Parts.{SpellsJoined}

-- six bytes, each as two hexadecimal digits in either case, with `:` between each two
pub record SpellsMac (bytes text : List ℕ) : Type 0 where
  pub six : length bytes ≡ 6
  pub pairs : SpellsJoined (SpellsHex 2) colon bytes text

-- the spelling that is printed, with upper-case letters
abbrev pub mac_text : List ℕ → List ℕ
mac_text bytes = join_with_byte colon (map (numeral Upper 16 2) bytes)
