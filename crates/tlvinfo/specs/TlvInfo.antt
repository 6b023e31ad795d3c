-- Which bytes are TlvInfo data, and of which fields (ONIE design specification, board EEPROM information format).
use Rattle.std.specs.Prelude.{◌≡◌, ◌≢◌, ℕ, ◌+◌, ◌≤◌, ◌==◌, IsTrue, List, [], ◌∷◌, ◌++◌, length, count_by, codes}
use Rattle.std.specs.List.{flat_map, AllByRecursion}
use Rattle.byteorder.specs.Endian.{big_bytes}
use Rattle.bd_bytes.specs.Crc.{crc32_of}
use Rattle.bd_codes.specs.TlvTable.{allows, is_single}

pub record Field : Type 0 where
  pub code : ℕ
  pub value : List ℕ

-- a field's bytes: its code, the length of its value, and the value
abbrev pub field_bytes : Field → List ℕ
field_bytes f = f.code ∷ length f.value ∷ f.value

-- the fields' bytes, one after the other
abbrev pub joined : List Field → List ℕ
joined fs = flat_map field_bytes fs

-- what the header begins with
abbrev pub signature : List ℕ
signature = codes "TlvInfo" ++ 0 ∷ []

-- the signature, version 1, and how many bytes follow the header
abbrev pub header : ℕ → List ℕ
header total = signature ++ 1 ∷ big_bytes 2 total

-- how many bytes follow the header: the fields, and the checksum's field of six bytes
abbrev pub total_of : List Field → ℕ
total_of fs = length (joined fs) + 6

-- what the checksum is taken of: all bytes before it, its own code and length included
abbrev pub before_checksum : List Field → List ℕ
before_checksum fs = header (total_of fs) ++ (joined fs ++ 0xfe ∷ 4 ∷ [])

-- the one spelling of the fields
abbrev pub spelling : List Field → List ℕ
spelling fs = before_checksum fs ++ big_bytes 4 (crc32_of (before_checksum fs))

-- a field other than the checksum's, with a value of a length that its code allows
pub record IsField (f : Field) : Type 0 where
  pub no_checksum : f.code ≢ 0xfe
  pub allowed : IsTrue (allows f.code (length f.value))

-- how many fields have the code
abbrev pub count_of : ℕ → List Field → ℕ
count_of code fs = count_by (λ f. f.code == code) fs

-- fields that may stand together
pub record AreFields (fs : List Field) : Type 0 where
  pub each : AllByRecursion IsField fs
  pub once : (code : ℕ) → IsTrue (is_single code) → count_of code fs ≤ 1

-- the bytes are TlvInfo data of these fields; bytes may follow, and mean nothing
pub record Tlv (bytes : List ℕ) (fs : List Field) : Type 0 where
  pub fields : AreFields fs
  pub fits : total_of fs ≤ 2037
  pub spelled : (rest : List ℕ) × (bytes ≡ spelling fs ++ rest)
