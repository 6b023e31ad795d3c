-- The texts that spell a value.
use Rattle.std.specs.Prelude.{ℕ, ◌≡◌, ◌^◌, ◌<◌, ◌≤◌, IsTrue, List, length}
use Rattle.std.specs.Fmt.{decimal}
use Rattle.std.specs.List.{AllZip, concat}
use Rattle.byteorder.specs.Endian.{big_bytes}
use Rattle.bd_codes.specs.declared.row.Kind.{Kind}
use Rattle.bd_codes.specs.declared.row.Kind.TheVariants.{Text, Mac, Date, Byte, Word, Letters}
use Rattle.bd_codes.specs.TlvTable.{allows}
use Rattle.bd_text.specs.Digits.{SpellsHex}
use Rattle.bd_text.specs.Mac.{SpellsMac}
use Rattle.tlv_text.specs.Values.{HasForm, kind_of}

-- at most 255 bytes, which stand in the text as they are
pub record SpellsPlainly (value text : List ℕ) : Type 0 where
  pub short : length value ≤ 255
  pub same : text ≡ value

-- a number of so many bytes in decimal digits, without leading zeros
pub record WritesNumber (count number : ℕ) (text : List ℕ) : Type 0 where
  pub fits : number < 256 ^ count
  pub digits : text ≡ decimal number

-- such a number, of which the value is the bytes, the highest first
pub record SpellsNumber (count : ℕ) (value text : List ℕ) : Type 0 where
  pub number : ℕ
  pub written : WritesNumber count number text
  pub bytes : value ≡ big_bytes count number

-- each byte as two hexadecimal digits, in either case
pub record SpellsPairs (value text : List ℕ) : Type 0 where
  pub pairs : List (List ℕ)
  pub each : AllZip (SpellsHex 2) value pairs
  pub joined : text ≡ concat pairs

-- at most 255 bytes, each as such a pair
pub record SpellsHexadecimal (value text : List ℕ) : Type 0 where
  pub short : length value ≤ 255
  pub paired : SpellsPairs value text

-- the text spells the value as one of the kind
abbrev pub SpellsValue : Kind → List ℕ → List ℕ → Type 0
SpellsValue Text value text = SpellsPlainly value text
SpellsValue Date value text = SpellsPlainly value text
SpellsValue Letters value text = SpellsPlainly value text
SpellsValue Mac value text = SpellsMac value text
SpellsValue Byte value text = SpellsNumber 1 value text
SpellsValue Word value text = SpellsNumber 2 value text
SpellsValue _ value text = SpellsHexadecimal value text

-- the text spells a value that a field of the code may have
pub record Spells (code : ℕ) (value text : List ℕ) : Type 0 where
  pub allowed : IsTrue (allows code (length value))
  pub form : HasForm (kind_of code) value
  pub spelled : SpellsValue (kind_of code) value text
