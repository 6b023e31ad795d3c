-- GUIDs as text: five fields of hexadecimal digits with a dash between each two (RFC 9562, section
-- 4).
use Rattle.std.specs.Prelude.{ℕ, List, [], ◌∷◌, drop, map}
use Rattle.std.specs.List.{join_with_byte}
use Rattle.byteorder.specs.Endian.{big_number, little_number}
use Rattle.bd_text.specs.Digits.{AreBytes, SpellsHex, numeral}
use Rattle.bd_text.specs.Marks.{dash}
use Rattle.bd_text.specs.Parts.{SpellsJoined}
use Rattle.bd_text.specs.declared.digits.Case.TheVariants.{Lower}

-- how many digits each field has, and its number; the first three lie with the low byte first (UEFI
-- 2.10, appendix A)
abbrev pub guid_fields : List ℕ → List (ℕ × ℕ)
guid_fields bytes =
    (8, little_number 4 bytes) ∷ (4, little_number 2 (drop 4 bytes))
    ∷ (4, little_number 2 (drop 6 bytes)) ∷ (4, big_number 2 (drop 8 bytes))
    ∷ (12, big_number 6 (drop 10 bytes)) ∷ []

-- the fields stand in hexadecimal digits, in either case, with `-` between each two
abbrev pub SpellsFields : List (ℕ × ℕ) → List ℕ → Type 0
SpellsFields fields text = SpellsJoined (λ f. SpellsHex f.0 f.1) dash fields text

-- sixteen bytes, whose fields the text spells
pub record SpellsGuid (bytes text : List ℕ) : Type 0 where
  pub sixteen : AreBytes 16 bytes
  pub fields : SpellsFields (guid_fields bytes) text

-- the spelling of fields that is printed, with lower-case letters
abbrev pub fields_text : List (ℕ × ℕ) → List ℕ
fields_text fields = join_with_byte dash (map (λ f. numeral Lower 16 f.0 f.1) fields)

-- the spelling of a GUID that is printed
abbrev pub guid_text : List ℕ → List ℕ
guid_text bytes = fields_text (guid_fields bytes)
