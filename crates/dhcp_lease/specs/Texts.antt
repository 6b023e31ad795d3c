-- Which text some bytes are.
use Rattle.std.specs.Prelude.{ℕ, Bool, false, ◌==◌, ◌&&◌, nat_le, if◌then◌else◌, List, [], ◌∷◌, Option, Some, None}
use Rattle.std.specs.List.{list_all}
use Rattle.std.specs.Option.{option_and_then, option_or}

-- a byte that is printed, and no space
abbrev pub is_graphic : ℕ → Bool
is_graphic b = nat_le 0x21 b && nat_le b 0x7e

-- a byte before others: a zero before nothing is left out
abbrev pub before : ℕ → List ℕ → List ℕ
before b [] = if b == 0 then [] else b ∷ []
before b (c ∷ bs) = b ∷ c ∷ bs

-- the bytes without the zeros at their end
abbrev pub trimmed : List ℕ → List ℕ
trimmed [] = []
trimmed (b ∷ bs) = before b (trimmed bs)

-- one or more bytes that are printed
abbrev pub is_text : List ℕ → Bool
is_text [] = false
is_text (b ∷ bs) = list_all is_graphic (b ∷ bs)

-- the text that some bytes are, none where they are no text
abbrev pub text_in : List ℕ → Option (List ℕ)
text_in value = if is_text (trimmed value) then Some (trimmed value) else None

-- the text that a value is, none where it is no text
abbrev pub text_of : Option (List ℕ) → Option (List ℕ)
text_of value = option_and_then text_in value

-- the text that a value is, or else that of a field
abbrev pub text_or : Option (List ℕ) → List ℕ → Option (List ℕ)
text_or value field = option_or (text_of value) (text_in field)
