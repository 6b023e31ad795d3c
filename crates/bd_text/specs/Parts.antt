-- Values written one after another, with a mark between each two.
use Rattle.std.specs.Prelude.{◌≡◌, ℕ, ◌==◌, List}
use Rattle.std.specs.List.{AllZip, join_with_byte, slice_split}
use Rattle.bd_text.specs.Digits.{SpellsHex}
use Rattle.bd_text.specs.Group.{SpellsGroup}
use Rattle.bd_text.specs.Octet.{SpellsOctet}
use Rattle.bd_text.specs.declared.parts.Form.{Form}
use Rattle.bd_text.specs.declared.parts.Form.TheVariants.{Group, Octet, Pair}

-- the text is parts with the mark between each two, and each part spells its value
pub record SpellsJoined {A : Type 0} (Spells : A → List ℕ → Type 0) (mark : ℕ) (values : List A)
    (text : List ℕ) : Type 0 where
  pub parts : List (List ℕ)
  pub each : AllZip Spells values parts
  pub joined : text ≡ join_with_byte mark parts

-- the parts that the marks of a text part
abbrev pub parts_of : ℕ → List ℕ → List (List ℕ)
parts_of mark text = slice_split (λ b. b == mark) text

-- how a number is written in each form
abbrev pub SpellsIn : Form → ℕ → List ℕ → Type 0
SpellsIn Pair number text = SpellsHex 2 number text
SpellsIn Octet number text = SpellsOctet number text
SpellsIn Group number text = SpellsGroup number text
