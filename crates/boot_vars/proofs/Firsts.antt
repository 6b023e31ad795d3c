-- The first element that passes a test.
use Rattle.std.proofs.Common.{◌≡◌, inl, inr, ℕ, suc, ◌<◌, List, [], ◌∷◌, ◌++◌, length, get_or, Bool, true, false, ◌||◌, ◌==◌, Some, None, refl, ◌∙◌, ap, arith}
use Rattle.std.specs.List.{after_first, before_first, list_any, position_or_len}
use Rattle.std.proofs.lemmas.Bool.{both_ways, cases_lt, eqb-true, false_from_ne_true}
use Rattle.std.proofs.lemmas.List.Folds.{list_any_at}
use Rattle.std.proofs.lemmas.List.Sums.{fails_before_first, passes_at_first, position_or_len_is, split_at_first}
use Rattle.memchr.specs.Find.{IsFirstByte}

-- no element passes
none_passes : (p : ℕ → Bool) (xs : List ℕ) → ((k : ℕ) → k < length xs → p (get_or xs k 0) ≡ false) → list_any p xs ≡ false
none_passes p [] each = refl
none_passes p (x ∷ xs) each = ap (λ (b : Bool). b || list_any p xs) (each 0 (omega arith)) ∙ none_passes p xs (λ k lt. each (suc k) (omega arith))

pub nowhere : (p : ℕ → Bool) (xs : List ℕ) → IsFirstByte p xs None → list_any p xs ≡ false
nowhere p xs first = none_passes p xs (λ k lt. false_from_ne_true (p (get_or xs k 0)) (first k (omega arith) lt))

-- a place that is the first one
pub record IsPlace (p : ℕ → Bool) (xs : List ℕ) (at : ℕ) : Type 0 where
  pub any : list_any p xs ≡ true
  pub place : position_or_len p xs ≡ at
  pub within : at < length xs

pub here : (p : ℕ → Bool) (xs : List ℕ) (at : ℕ) → IsFirstByte p xs (Some at) → IsPlace p xs at
here p xs at first = record {
  any = list_any_at p xs at 0 first.0.high first.1;
  place = position_or_len_is p xs at 0 (let lt = first.0.high in omega (arith, lt)) (λ k lt. false_from_ne_true (p (get_or xs k 0)) (first.0.before k (omega arith) lt)) (λ lt. first.1);
  within = first.0.high;
}

-- where an element passes there is a first one
any_within : (p : ℕ → Bool) (xs : List ℕ) → list_any p xs ≡ true → position_or_len p xs < length xs
any_within p xs any = elim (cases_lt (position_or_len p xs) (length xs)) [
  | inl lt ↦ lt
  | inr le ↦ absurd (both_ways (list_any p xs) (none_passes p xs (λ k lt. fails_before_first p xs k 0 (omega arith))) any)
]

-- a list in which c stands is what stands before the first c, that one, and what stands after it
pub joined : (c : ℕ) (xs : List ℕ) → list_any (λ b. b == c) xs ≡ true → xs ≡ before_first (λ b. b == c) xs ++ c ∷ after_first (λ b. b == c) xs
joined c xs any =
    let within = any_within (λ b. b == c) xs any in
    let at = position_or_len (λ b. b == c) xs in
    let is : get_or xs at 0 ≡ c = eqb-true (get_or xs at 0) c (passes_at_first (λ b. b == c) xs 0 within) in
    split_at_first (λ b. b == c) xs 0 within ∙ ap (λ (y : ℕ). before_first (λ b. b == c) xs ++ y ∷ after_first (λ b. b == c) xs) is
