-- Sets and items, one piece after the other.
use Rattle.std.proofs.Common.{◌≡◌, ℕ, zero, suc, Bool, true, false, ◌||◌, if◌then◌else◌, refl, ap, [], ◌∷◌, drop, Some, None}
use Rattle.sh_expand.specs.Pattern.{Pieces, is_unquoted, within, range_end, has, items_from, items_of}

or_false : (b : Bool) → b ≡ (b || false)
or_false true = refl
or_false false = refl

chosen_none : {A : Type 0} (b : Bool) (x : A) → (if b then Some x else None) ≡ None → b ≡ false
chosen_none true x e = cc
chosen_none false x e = refl

chosen_some : {A : Type 0} (b : Bool) (x y : A) → (if b then Some x else None) ≡ Some y → (b ≡ true) × (x ≡ y)
chosen_some true x y e = (refl, cc)
chosen_some false x y e = cc

-- a byte alone is the first member
pub has_one : (x : ℕ × Bool) (r : Pieces) → range_end r ≡ None → (c : ℕ) → has (x ∷ r) c ≡ (within x.0 x.0 c || has r c)
has_one x [] e c = or_false (within x.0 x.0 c)
has_one x (d ∷ []) e c = refl
has_one x (d ∷ y ∷ p) e c = let f = chosen_none (is_unquoted 45 d) (y.0, p) e in rw f refl

-- a range is the first member
pub has_range : (x : ℕ × Bool) (r p : Pieces) (high : ℕ) → range_end r ≡ Some (high, p) → (c : ℕ) → has (x ∷ r) c ≡ (within x.0 high c || has p c)
has_range x [] p high e c = cc
has_range x (d ∷ []) p high e c = cc
has_range x (d ∷ y ∷ q) p high e c =
    let f = chosen_some (is_unquoted 45 d) (y.0, q) (high, p) e in
    rw f.0 (ap (λ z. within x.0 z.0 c || has z.1 c) f.1)

pub items_past : (k : ℕ) (p : Pieces) → items_from k p ≡ items_of (drop k p)
items_past zero p = refl
items_past (suc k) [] = refl
items_past (suc k) (x ∷ p) = items_past k p
