-- Texts, taken apart from the front.
use Rattle.std.specs.Prelude.{◌≡◌, ℕ, Bool, true, false, ◌||◌, ◌&&◌, ◌==◌, nat_le, if◌then◌else◌, List, [], ◌∷◌, Option, Some, None, option_map}
use Rattle.std.specs.Borrow.{Bor}

abbrev pub Text : Type 0
Text = List ℕ

-- a space, a tab or a line end
abbrev pub is_blank : ℕ → Bool
is_blank c = c == 32 || c == 9 || c == 10

-- a letter, a digit or `_`
abbrev pub is_name_byte : ℕ → Bool
is_name_byte c = (nat_le 48 c && nat_le c 57) || (nat_le 65 c && nat_le c 90) || (nat_le 97 c && nat_le c 122) || c == 95

-- a byte that begins a name: none of the digits
abbrev pub begins_name : ℕ → Bool
begins_name c = (nat_le 65 c && nat_le c 90) || (nat_le 97 c && nat_le c 122) || c == 95

-- what follows the blanks at the front
abbrev pub skip : Text → Text
skip [] = []
skip (c ∷ t) = if is_blank c then skip t else c ∷ t

-- what follows this byte, where it stands at the front
abbrev pub past : ℕ → Text → Option Text
past byte [] = None
past byte (c ∷ t) = if c == byte then Some t else None

-- the same after any blanks
abbrev pub after : ℕ → Text → Option Text
after byte text = past byte (skip text)

-- a part of a text, or none, as a definition has it
abbrev pub Follows : Option (Bor (List ℕ)) → Option Text → Type 0
Follows found text = option_map (λ t. t.now) found ≡ text

-- a name stands at the front
abbrev pub BeginsName : Text → Type 0
BeginsName [] = ⊥
BeginsName (c ∷ t) = begins_name c ≡ true
