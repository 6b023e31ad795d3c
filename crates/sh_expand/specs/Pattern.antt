-- Patterns, and the texts that they match: POSIX.1-2017, Shell Command Language, 2.13, without classes.
use Rattle.std.specs.Prelude.{◌≡◌, ℕ, zero, suc, ◌+◌, Bool, true, false, not, ◌==◌, nat_le, ◌&&◌, ◌||◌, if◌then◌else◌, List, [], ◌∷◌, take, position, Option, Some, None, option_map}

abbrev pub Text : Type 0
Text = List ℕ

-- bytes, each with whether it is quoted
abbrev pub Pieces : Type 0
Pieces = List (ℕ × Bool)

abbrev pub is_unquoted : ℕ → ℕ × Bool → Bool
is_unquoted byte piece = (piece.0 == byte) && not piece.1

-- what a pattern has at a place: any bytes, any byte, a byte, or one of a set (or, where negated, not of it)
pub data Item : Type 0 where
  Star : Item
  Any : Item
  Byte : ℕ → Item
  Set : Bool → Pieces → Item

-- ---- sets

abbrev pub within : ℕ → ℕ → ℕ → Bool
within low high c = nat_le low c && nat_le c high

-- the byte after a `-`, and what follows it
abbrev pub range_end : Pieces → Option (ℕ × Pieces)
range_end [] = None
range_end (d ∷ []) = None
range_end (d ∷ y ∷ p) = if is_unquoted 45 d then Some (y.0, p) else None

-- whether the byte is of those between the brackets: bytes, and ranges with `-`, which is itself at the front and the end
abbrev pub has : Pieces → ℕ → Bool
has [] c = false
has (x ∷ []) c = within x.0 x.0 c
has (x ∷ d ∷ []) c = within x.0 x.0 c || within d.0 d.0 c
has (x ∷ d ∷ y ∷ p) c = if is_unquoted 45 d then within x.0 y.0 c || has p c else within x.0 x.0 c || has (d ∷ y ∷ p) c

-- how many pieces stand before the `]` that ends a set: the first of them is no end
abbrev pub closing : Pieces → Option ℕ
closing [] = None
closing (x ∷ p) = option_map (λ n. n + 1) (position (is_unquoted 93) p)

-- ---- items

abbrev pub takes : Item → ℕ → Bool
takes Star c = false
takes Any c = true
takes (Byte b) c = b == c
takes (Set negated content) c = if negated then not (has content c) else has content c

-- a set after so many pieces, or a `[` that is itself
abbrev pub set_of : Bool → ℕ → Pieces → Option ℕ → Item × ℕ
set_of negated before content None = (Byte 91, 0)
set_of negated before content (Some n) = (Set negated (take n content), before + n + 1)

-- what follows a `[`
abbrev pub bracket : Pieces → Item × ℕ
bracket [] = (Byte 91, 0)
bracket (x ∷ p) = if is_unquoted 33 x then set_of true 1 p (closing p) else set_of false 0 (x ∷ p) (closing (x ∷ p))

-- the item that begins with this piece, and how many of those after it it takes
abbrev pub item_at : ℕ × Bool → Pieces → Item × ℕ
item_at x p =
    if is_unquoted 42 x then (Star, 0)
    else if is_unquoted 63 x then (Any, 0)
    else if is_unquoted 91 x then bracket p
    else (Byte x.0, 0)

-- the items of a pattern, from the piece after so many on
abbrev pub items_from : ℕ → Pieces → List Item
items_from k [] = []
items_from zero (x ∷ p) = (item_at x p).0 ∷ items_from (item_at x p).1 p
items_from (suc k) (x ∷ p) = items_from k p

abbrev pub items_of : Pieces → List Item
items_of p = items_from 0 p

-- ---- matching

-- the items match the text
pub data Matches : List Item → Text → Type 0 where
  ends : Matches [] []
  byte : {i : Item} {is : List Item} {c : ℕ} {t : Text} → takes i c ≡ true → Matches is t → Matches (i ∷ is) (c ∷ t)
  star_ends : {is : List Item} {t : Text} → Matches is t → Matches (Star ∷ is) t
  star_goes : {is : List Item} {c : ℕ} {t : Text} → Matches (Star ∷ is) t → Matches (Star ∷ is) (c ∷ t)
