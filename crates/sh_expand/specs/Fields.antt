-- Fields: POSIX.1-2017, Shell Command Language, 2.6.5.
use Rattle.std.specs.Prelude.{◌≡◌, ◌<◌, ℕ, Bool, not, ◌==◌, ◌&&◌, ◌||◌, if◌then◌else◌, List, [], ◌∷◌, map, drop, length}
use Rattle.std.specs.List.{list_any, take_while, prefix_len}
use Rattle.sh_expand.specs.Pattern.{Text, Pieces}

-- a byte of IFS that isn't quoted
abbrev pub is_delimiter : Text → ℕ × Bool → Bool
is_delimiter ifs piece = not piece.1 && list_any (λ b. b == piece.0) ifs

-- white space of IFS: a space, a tab or a line end in it
abbrev pub is_white : Text → ℕ × Bool → Bool
is_white ifs piece = is_delimiter ifs piece && (piece.0 == 32 || piece.0 == 9 || piece.0 == 10)

-- what follows the white space of IFS at the front
abbrev pub skip_white : Text → Pieces → Pieces
skip_white ifs [] = []
skip_white ifs (x ∷ p) = if is_white ifs x then skip_white ifs p else x ∷ p

-- the same without a delimiter at the front
abbrev pub past_one : Text → Pieces → Pieces
past_one ifs [] = []
past_one ifs (x ∷ p) = if is_delimiter ifs x then p else x ∷ p

-- what follows one delimiter: white space of IFS, or another byte of IFS with the white space before it
abbrev pub past_delimiter : Text → Pieces → Pieces
past_delimiter ifs p = past_one ifs (skip_white ifs p)

-- how many pieces stand before the first delimiter
abbrev pub field_length : Text → Pieces → ℕ
field_length ifs p = prefix_len (λ x. not (is_delimiter ifs x)) p

-- the bytes before the first delimiter
abbrev pub field : Text → Pieces → Text
field ifs p = map (λ x. x.0) (take_while (λ x. not (is_delimiter ifs x)) p)

-- what follows a field and its delimiter
abbrev pub next : Text → Pieces → Pieces
next ifs p = past_delimiter ifs (drop (field_length ifs p) p)

-- the fields of what the pieces hold
pub data Splits (ifs : Text) : Pieces → List Text → Type 0 where
  none : {p : Pieces} → skip_white ifs p ≡ [] → Splits ifs p []
  more : {p : Pieces} {fields : List Text} → (skip_white ifs p ≡ [] → ⊥) → Splits ifs (next ifs (skip_white ifs p)) fields → Splits ifs p (field ifs (skip_white ifs p) ∷ fields)

-- a field of it is longer than this
pub data HasLonger (ifs : Text) (most : ℕ) : Pieces → Type 0 where
  first : {p : Pieces} → (skip_white ifs p ≡ [] → ⊥) → most < length (field ifs (skip_white ifs p)) → HasLonger ifs most p
  later : {p : Pieces} → (skip_white ifs p ≡ [] → ⊥) → HasLonger ifs most (next ifs (skip_white ifs p)) → HasLonger ifs most p
