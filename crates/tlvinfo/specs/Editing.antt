-- What setting the value of a code makes of the fields, and why it is refused.
use Rattle.std.specs.Prelude.{◌≢◌, ℕ, ◌<◌, Bool, ◌==◌, ◌&&◌, nat_le, IsTrue, if◌then◌else◌, List, [], ◌∷◌, ◌++◌, length, Option, Some, None, position, remove}
use Rattle.std.specs.List.{before_first, after_first}
use Rattle.bd_codes.specs.TlvTable.{allows}
use Rattle.tlvinfo.specs.TlvInfo.{Field, spelling}

-- whether the field has the code
abbrev pub has : ℕ → Field → Bool
has code f = f.code == code

-- The fields with the value set under the code: in place of the first field of the code, or as one more at the end
-- where none has it. A vendor extension (code FD) is always one more.
abbrev pub with_value : ℕ → List ℕ → List Field → List Field
with_value code value fs =
    let f : Field = record { code = code; value = value } in
    if code == 0xfd then fs ++ f ∷ [] else before_first (has code) fs ++ f ∷ after_first (has code) fs

-- whether a value of this length can be set under the code: the code allows it, and it fits the length's byte
abbrev pub can_hold : ℕ → ℕ → Bool
can_hold code length = allows code length && nat_le length 255

-- the code can be set, but not to this value
pub record HasBadValue (code : ℕ) (value : List ℕ) : Type 0 where
  pub no_checksum : code ≢ 0xfe
  pub bad : ¬ IsTrue (can_hold code (length value))

-- the code can be set to this value, but not in these fields: the whole then passes 2,048 bytes
pub record HasNoRoom (code : ℕ) (value : List ℕ) (fs : List Field) : Type 0 where
  pub no_checksum : code ≢ 0xfe
  pub good : IsTrue (can_hold code (length value))
  pub long : 2048 < length (spelling (with_value code value fs))

-- the place of the field that a new one of the code replaces: that of the first with the code, none for a vendor extension
abbrev pub replaced_place : ℕ → List Field → Option ℕ
replaced_place code fs = if code == 0xfd then None else position (has code) fs

-- the fields but that at the place
abbrev pub others : Option ℕ → List Field → List Field
others None fs = fs
others (Some place) fs = remove fs place
