-- Numbers in digits, as they are read and as they are printed.
use Rattle.std.specs.Prelude.{◌≡◌, ℕ, zero, suc, ◌/◌, ◌%◌, ◌<◌, List, [], ◌∷◌, ◌++◌, length, slice_index, codes, map, if◌then◌else◌, ◌==◌}
use Rattle.std.specs.Int.Digits.{digits_of}
use Rattle.std.specs.Str.Parse.{AllDigits, digits_value}
use Rattle.bd_text.specs.declared.digits.Case.{Case}
use Rattle.bd_text.specs.declared.digits.Case.TheVariants.{Lower, Upper}

-- digits of the base, letters in either case, whose value is the number
pub record Writes (base number : ℕ) (text : List ℕ) : Type 0 where
  pub digits : AllDigits base text
  pub value : digits_value base text ≡ number

-- so many hexadecimal digits, in either case, that write the number
pub record SpellsHex (count number : ℕ) (text : List ℕ) : Type 0 where
  pub width : length text ≡ count
  pub hex : Writes 16 number text

-- so many numbers, and each is a byte
pub record AreBytes (count : ℕ) (bytes : List ℕ) : Type 0 where
  pub size : length bytes ≡ count
  pub small : (i : ℕ) → slice_index bytes i < 256

-- the digits that are printed, by their values
abbrev pub digits_in : Case → List ℕ
digits_in Lower = codes "0123456789abcdef"
digits_in Upper = codes "0123456789ABCDEF"

-- the last `count` digits of the number in the base
unfoldable pub numeral : Case → ℕ → ℕ → ℕ → List ℕ
numeral letters base zero number = []
numeral letters base (suc count) number =
    numeral letters base count (number / base)
    ++ slice_index (digits_in letters) (number % base) ∷ []

-- the number without leading zeros in the base
unfoldable pub shortest : Case → ℕ → ℕ → List ℕ
shortest letters base number =
    map (slice_index (digits_in letters)) (if number == 0 then 0 ∷ [] else digits_of base number)
