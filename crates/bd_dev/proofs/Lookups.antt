-- The first element of a name, after a write in its place or a push.
use Rattle.std.proofs.Common.{◌≡◌, ◌≢◌, ℕ, ◌<◌, ◌≤◌, ◌⊎◌, Bool, true, false, cond, ltb, List, [], ◌∷◌, ◌++◌, length, set, get_or, Option, Some, None, find, position, refl, sym, ap, subst, ◌∙◌, inl, inr, arith}
use Rattle.std.specs.List.{position_or_len, slice_get}
use Rattle.std.proofs.lemmas.List.Sums.{fails_before_first}
use Rattle.std.proofs.lemmas.Bool.Decides.{nat_tests}
use Rattle.std.specs.Option.{option_or}
use Rattle.std.specs.Str.{bytes_eq}
use Rattle.std.proofs.lemmas.Bool.{false_from_ne_true}
use Rattle.std.proofs.lemmas.List.Folds.{find_at, find-set, find_past, find-append}
use Rattle.std.proofs.lemmas.List.Quantifiers.{position-Some}
use Rattle.std.proofs.lemmas.Option.{slice_get_cases, slice_get-get_or}
use Rattle.std.proofs.lemmas.Slice.Eq.{bytes_eq-Decides}

-- the element has this name
abbrev pub named : {X : Type 0} → (X → List ℕ) → List ℕ → X → Bool
named key name x = bytes_eq (key x) name

pub bytes_eq-same : (xs ys : List ℕ) → xs ≡ ys → bytes_eq xs ys ≡ true
bytes_eq-same xs ys h = (bytes_eq-Decides xs ys).1 h

pub bytes_eq-other : (xs ys : List ℕ) → xs ≢ ys → bytes_eq xs ys ≡ false
bytes_eq-other xs ys h = false_from_ne_true (bytes_eq xs ys) (λ e. h ((bytes_eq-Decides xs ys).0 e))

cond-Some : (b : Bool) (a i : ℕ) → cond b (Some a) None ≡ Some i → i ≡ a
cond-Some true a i h = cc
cond-Some false a i h = cc

not_within : (a n : ℕ) → a < n → cond (ltb a n) (Some a) None ≡ None → ⊥
not_within a n lt h = grind (arith, nat_tests)

place_is : {X : Type 0} (p : X → Bool) (xs : List X) (i : ℕ) → position p xs ≡ Some i → i ≡ position_or_len p xs
place_is p xs i h = cond-Some (ltb (position_or_len p xs) (length xs)) (position_or_len p xs) i h

past_end : {X : Type 0} (p : X → Bool) (xs : List X) → position p xs ≡ None → (length xs ≤ position_or_len p xs) × (slice_get xs (position_or_len p xs) ≡ None)
past_end p xs h =
    elim (slice_get_cases xs (position_or_len p xs)).1 [
      | inl w ↦ absurd (not_within (position_or_len p xs) (length xs) w.1 h)
      | inr w ↦ w
    ]

-- no place, no element
pub find-nowhere : {X : Type 0} (p : X → Bool) (xs : List X) → position p xs ≡ None → find p xs ≡ None
find-nowhere p xs h = find_at p xs ∙ (past_end p xs h).1

-- and so no element has the name
pub unnamed : (X : Type 0) (key : X → List ℕ) (xs : List X) (k : List ℕ) (d : X) → position (named key k) xs ≡ None → (i : ℕ) → i < length xs → key (get_or xs i d) ≢ k
unnamed X key xs k d h i lt same =
    let end = (past_end (named key k) xs h).0 in
    let fails = fails_before_first (named key k) xs i d (omega arith) in
    let passes = bytes_eq-same (key (get_or xs i d)) k same in
    cc

-- the place, over the values behind the list and the name that were searched
pub place_of : (X : Type 0) (key : X → List ℕ) (seen xs : List X) (name k : List ℕ) (found : Option ℕ) → found ≡ position (named key name) seen → seen ≡ xs → name ≡ k → position (named key k) xs ≡ found
place_of X key seen xs name k found h s n =
    subst (λ n. position (named key n) xs ≡ found) n (subst (λ ys. position (named key name) ys ≡ found) s (sym h))

-- two names are the same or not
pub same_name : (q k : List ℕ) → (q ≡ k) ⊎ (q ≢ k)
same_name q k = by (bytes_eq q k) refl
  where
    by : (b : Bool) → bytes_eq q k ≡ b → (q ≡ k) ⊎ (q ≢ k)
    by true e = inl ((bytes_eq-Decides q k).0 e)
    by false e = inr (λ s. let t = bytes_eq-same q k s in cc)

-- the element at the place has the name
pub named_at : {X : Type 0} (key : X → List ℕ) (xs : List X) (i : ℕ) (d : X) (k : List ℕ) → position (named key k) xs ≡ Some i → key (get_or xs i d) ≡ k
named_at key xs i d k h = (bytes_eq-Decides (key (get_or xs i d)) k).0 (position-Some (named key k) xs i d h).1

pub place_within : {X : Type 0} (p : X → Bool) (xs : List X) (i : ℕ) (d : X) → position p xs ≡ Some i → i < length xs
place_within p xs i d h = (position-Some p xs i d h).0

pub find-found : (X : Type 0) (key : X → List ℕ) (xs : List X) (i : ℕ) (d : X) (k : List ℕ) → position (named key k) xs ≡ Some i → find (named key k) xs ≡ Some (get_or xs i d)
find-found X key xs i d k h =
    find_at (named key k) xs ∙ ap (slice_get xs) (sym (place_is (named key k) xs i h))
    ∙ slice_get-get_or xs i d (place_within (named key k) xs i d h)

pub find-write : {X : Type 0} (key : X → List ℕ) (xs : List X) (i : ℕ) (y : X) (k : List ℕ) → position (named key k) xs ≡ Some i → key y ≡ k → find (named key k) (set xs i y) ≡ Some y
find-write key xs i y k h e = find-set (named key k) xs i y (place_is (named key k) xs i h) (position-Some (named key k) xs i y h).0 (bytes_eq-same (key y) k e)

pub find-write_other : {X : Type 0} (key : X → List ℕ) (xs : List X) (i : ℕ) (y : X) (k q : List ℕ) → position (named key k) xs ≡ Some i → key y ≡ k → q ≢ k → find (named key q) (set xs i y) ≡ find (named key q) xs
find-write_other key xs i y k q h e ne =
    find_past (named key q) xs i y y
    (bytes_eq-other (key (get_or xs i y)) q (λ same. ne (sym same ∙ named_at key xs i y k h)))
    (bytes_eq-other (key y) q (λ same. ne (sym same ∙ e)))

pub find-push : {X : Type 0} (key : X → List ℕ) (xs : List X) (y : X) (k : List ℕ) → find (named key k) xs ≡ None → key y ≡ k → find (named key k) (xs ++ y ∷ []) ≡ Some y
find-push key xs y k h e = let same = bytes_eq-same (key y) k e in find-append (named key k) xs (y ∷ []) ∙ rw (h, same) refl

pub find-push_other : {X : Type 0} (key : X → List ℕ) (xs : List X) (y : X) (k q : List ℕ) → key y ≡ k → q ≢ k → find (named key q) (xs ++ y ∷ []) ≡ find (named key q) xs
find-push_other key xs y k q e ne =
    let other = bytes_eq-other (key y) q (λ same. ne (sym same ∙ e)) in
    find-append (named key q) xs (y ∷ []) ∙ rw other (option_or-None (find (named key q) xs))
  where
    option_or-None : {A : Type 0} → (o : Option A) → option_or o None ≡ o
    option_or-None None = refl
    option_or-None (Some x) = refl
