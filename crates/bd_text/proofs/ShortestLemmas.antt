-- Numbers printed without leading zeros.
use Rattle.std.proofs.Common.{◌≡◌, ℕ, ◌*◌, ◌/◌, ◌%◌, ◌^◌, ◌<◌, ◌≤◌, List, [], ◌∷◌, ◌++◌, length, get_or, map, cond, eqb, refl, sym, ap, ◌∙◌, arith, inl, inr}
use Rattle.std.specs.Char.{digit_value}
use Rattle.std.specs.Int.Digits.{digits_of, number_from_digits, AllBelowBase}
use Rattle.std.specs.Str.Parse.{AllDigits}
use Rattle.std.proofs.Math.Nat.{div-eq_of_lt, mod-eq_of_lt, div-add-mod', mod-lt}
use Rattle.std.proofs.lemmas.Bool.{cases_eq, eq-eqb, ne_eqb}
use Rattle.std.proofs.lemmas.List.{get_or-map, length-map, map_push}
use Rattle.std.proofs.lemmas.Int.Digits.{all_below_base_digits_of, digits_of_step, digits_value_is, first_digits_of, length-digits_of-le, number_digits_of}
use Rattle.bd_text.specs.declared.digits.Case.{Case}
use Rattle.bd_text.specs.declared.digits.Case.TheVariants.{Lower}
use Rattle.bd_text.specs.Digits.{Writes, digits_in, shortest}
use Rattle.bd_text.specs.Octet.{SpellsOctet}
use Rattle.bd_text.proofs.DigitLemmas.{digit_value-digit}

-- the digits' values
fewest : ℕ → ℕ → List ℕ
fewest base n = cond (eqb n 0) (0 ∷ []) (digits_of base n)

-- 0 is one digit, and any other number has those of digits_of
record Fewest (base n : ℕ) (ds : List ℕ) : Type 0 where
  below : AllBelowBase base ds
  number : number_from_digits base ds ≡ n
  some : 0 < length ds
  first : 0 < n → 0 < get_or ds 0 0

fewest-is : (base n : ℕ) → 2 ≤ base → Fewest base n (fewest base n)
unfolding fewest
fewest-is base n low =
    elim (cases_eq n 0) [
      | inl none ↦ rw (eq-eqb n 0 none) (record { below = (omega arith, tt); number = omega arith; some = omega arith; first = λ h. absurd (omega arith) })
      | inr some ↦
          let above : 0 < n = omega arith in
          rw (ne_eqb n 0 some) (record { below = all_below_base_digits_of base n low; number = number_digits_of base n low; some = filled (digits_of base n) (first_digits_of base n low above); first = λ h. first_digits_of base n low h })
    ]
  where
    filled : (ds : List ℕ) → 0 < get_or ds 0 0 → 0 < length ds
    filled [] h = absurd (omega arith)
    filled (d ∷ ds) h = omega arith

fewest-small : (base n : ℕ) → 2 ≤ base → n < base → fewest base n ≡ n ∷ []
unfolding fewest
fewest-small base n low small =
    elim (cases_eq n 0) [
      | inl none ↦ rw (eq-eqb n 0 none, none) refl
      | inr some ↦
          let above : 0 < n = omega arith in
          rw (ne_eqb n 0 some, digits_of_step base n low above, div-eq_of_lt small, mod-eq_of_lt small) refl
    ]

fewest-large : (base n : ℕ) → 2 ≤ base → base ≤ n → fewest base n ≡ fewest base (n / base) ++ n % base ∷ []
unfolding fewest
fewest-large base n low large =
    let some : n ≡ 0 → ⊥ = λ h. absurd (omega arith) in
    let above : 0 < n = omega arith in
    let more : n / base ≡ 0 → ⊥ = λ h. let split = div-add-mod' n base in let rest = mod-lt n {m = base} (omega arith) in let none = ap (λ (k : ℕ). k * base) h in absurd (omega arith) in
    rw (ne_eqb n 0 some, ne_eqb (n / base) 0 more) (digits_of_step base n low above)

fewest-le : (base k n : ℕ) → 2 ≤ base → 0 < k → n < base ^ k → length (fewest base n) ≤ k
unfolding fewest
fewest-le base k n low some fits =
    elim (cases_eq n 0) [
      | inl none ↦ rw (eq-eqb n 0 none) (omega arith)
      | inr more ↦ rw (ne_eqb n 0 more) (length-digits_of-le base k n low fits)
    ]

module _ (letters : Case) (base : ℕ) (high : base ≤ 16) where
  printed : List ℕ → List ℕ
  printed ds = map (λ d. get_or (digits_in letters) d 0) ds

  -- the values of printed digits
  values-printed : (ds : List ℕ) → AllBelowBase base ds → map digit_value (printed ds) ≡ ds
  unfolding printed
  values-printed [] below = refl
  values-printed (d ∷ ds) below =
      let first = digit_value-digit letters d (omega (arith, below.0)) in
      let rest = values-printed ds below.1 in
      cc

  AllDigits-printed : (ds : List ℕ) → AllBelowBase base ds → AllDigits base (printed ds)
  unfolding printed
  AllDigits-printed [] below = tt
  AllDigits-printed (d ∷ ds) below = (rw (digit_value-digit letters d (omega (arith, below.0))) below.0, AllDigits-printed ds below.1)

  pub Writes-shortest : (n : ℕ) → 2 ≤ base → Writes base n (shortest letters base n)
  unfolding shortest fewest printed
  Writes-shortest n low =
      let is = fewest-is base n low in
      record {
        digits = AllDigits-printed (fewest base n) is.below;
        value = digits_value_is base (printed (fewest base n)) ∙ ap (number_from_digits base) (values-printed (fewest base n) is.below) ∙ is.number;
      }

  pub length-shortest-le : (k n : ℕ) → 2 ≤ base → 0 < k → n < base ^ k → length (shortest letters base n) ≤ k
  unfolding shortest fewest
  length-shortest-le k n low some fits = omega (arith, length-map (fewest base n) (λ d. get_or (digits_in letters) d 0), fewest-le base k n low some fits)

  pub shortest-some : (n : ℕ) → 2 ≤ base → 0 < length (shortest letters base n)
  unfolding shortest fewest
  shortest-some n low = let is = fewest-is base n low in omega (arith, length-map (fewest base n) (λ d. get_or (digits_in letters) d 0), is.some)

  pub shortest-small : (n : ℕ) → 2 ≤ base → n < base → shortest letters base n ≡ get_or (digits_in letters) n 0 ∷ []
  unfolding shortest fewest
  shortest-small n low small = ap (map (λ d. get_or (digits_in letters) d 0)) (fewest-small base n low small)

  pub shortest-large : (n : ℕ) → 2 ≤ base → base ≤ n → shortest letters base n ≡ shortest letters base (n / base) ++ get_or (digits_in letters) (n % base) 0 ∷ []
  unfolding shortest fewest
  shortest-large n low large = ap (map (λ d. get_or (digits_in letters) d 0)) (fewest-large base n low large) ∙ map_push (λ d. get_or (digits_in letters) d 0) (fewest base (n / base)) (n % base)

  first-below : (ds : List ℕ) → 0 < length ds → AllBelowBase base ds → get_or ds 0 0 < base
  first-below [] some below = absurd (omega arith)
  first-below (d ∷ ds) some below = below.0

  -- only 0 begins with the digit 0
  pub shortest-unpadded : (n : ℕ) → 2 ≤ base → get_or (shortest letters base n) 0 0 ≡ 48 → length (shortest letters base n) ≡ 1
  unfolding shortest fewest
  shortest-unpadded n low starts =
      let is = fewest-is base n low in
      let lead = get_or (fewest base n) 0 0 in
      elim (cases_eq n 0) [
        | inl none ↦ rw (eq-eqb n 0 none) refl
        | inr more ↦
            let above = is.first (omega arith) in
            let begins : get_or (digits_in letters) lead 0 ≡ 48 = sym (get_or-map (λ d. get_or (digits_in letters) d 0) (fewest base n) 0 0 0 is.some) ∙ starts in
            let digit = digit_value-digit letters lead (omega (arith, first-below (fewest base n) is.some is.below)) in
            let zero_value : digit_value (get_or (digits_in letters) lead 0) ≡ 0 = ap digit_value begins in
            absurd (omega arith)
      ]

-- a byte in as few digits as it has
pub SpellsOctet-shortest : (octet : ℕ) → octet < 256 → SpellsOctet octet (shortest Lower 10 octet)
SpellsOctet-shortest octet small = record {
  some = shortest-some Lower 10 (omega arith) octet (omega arith);
  few = length-shortest-le Lower 10 (omega arith) 3 octet (omega arith) (omega arith) (omega arith);
  unpadded = shortest-unpadded Lower 10 (omega arith) octet (omega arith);
  decimal = Writes-shortest Lower 10 (omega arith) octet (omega arith);
  small = small;
}
