-- Lists of bytes: what stands before the first zero, and what several writes leave.
use Rattle.std.proofs.Common.{◌≡◌, ℕ, ◌≤◌, ltb, Bool, List, ◌++◌, length, take, Some, None, refl, sym, ap, ◌∙◌, append_assoc, inl, inr}
use Rattle.std.specs.Prelude.{position}
use Rattle.std.specs.List.{position_or_len, before_first}
use Rattle.std.proofs.lemmas.Bool.{cases_Bool, ltb-false}
use Rattle.std.proofs.lemmas.List.{take_all}
use Rattle.std.proofs.lemmas.Option.{cond_some}

pub position-none : {X : Type 0} (p : X → Bool) (xs : List X) → position p xs ≡ None → length xs ≤ position_or_len p xs
position-none p xs h =
    elim (cases_Bool (ltb (position_or_len p xs) (length xs))) [
      | inl y ↦ absurd (let k = rw y at h in cc)
      | inr n ↦ ltb-false _ _ n
    ]

pub before_first-some : {X : Type 0} (p : X → Bool) (xs : List X) (k : ℕ) → position p xs ≡ Some k → take k xs ≡ before_first p xs
before_first-some p xs k e =
    let place : position_or_len p xs ≡ k = (cond_some (ltb (position_or_len p xs) (length xs)) (position_or_len p xs) k e).1 in
    rw place refl

pub before_first-none : {X : Type 0} (p : X → Bool) (xs : List X) → position p xs ≡ None → xs ≡ before_first p xs
before_first-none p xs e = sym (take_all (position_or_len p xs) xs (position-none p xs e))

-- one piece more behind what was written
pub written : (out a b x y : List ℕ) → x ≡ out ++ a → y ≡ x ++ b → y ≡ out ++ (a ++ b)
written out a b x y e f = f ∙ ap (λ (l : List ℕ). l ++ b) e ∙ append_assoc out a b
