-- Addresses taken one after the other.
use Rattle.std.proofs.Common.{◌≡◌, ℕ, zero, suc, ◌+◌, ◌-◌, ◌≤◌, ◌<◌, List, [], ◌∷◌, ◌++◌, length, take, drop, refl, sym, ap, ◌∙◌, append_assoc, length-append, arith}
use Rattle.std.proofs.lemmas.List.{append-nil}
use Rattle.bd_text.specs.declared.v4.V4.{V4}
use Rattle.dhcp_lease.specs.Values.{quads}

pub quads-step : (left : List ℕ) → 4 ≤ length left → quads left ≡ record { bytes = take 4 left } ∷ quads (drop 4 left)
quads-step [] h = absurd (omega arith)
quads-step (a ∷ []) h = absurd (omega arith)
quads-step (a ∷ b ∷ []) h = absurd (omega arith)
quads-step (a ∷ b ∷ c ∷ []) h = absurd (omega arith)
quads-step (a ∷ b ∷ c ∷ d ∷ rest) h = refl

quads-none : (left : List ℕ) → length left < 4 → quads left ≡ []
quads-none [] h = refl
quads-none (a ∷ []) h = refl
quads-none (a ∷ b ∷ []) h = refl
quads-none (a ∷ b ∷ c ∷ []) h = refl
quads-none (a ∷ b ∷ c ∷ d ∷ rest) h = absurd (omega arith)

-- those found and those of what is left are those of all
pub record Along (value : List ℕ) (found : List V4) (left : List ℕ) : Type 0 where
  pub few : length found ≤ 8
  pub all : found ++ take (8 - length found) (quads left) ≡ take 8 (quads value)

pub Along-first : (value : List ℕ) → Along value [] value
Along-first value = record { few = omega arith; all = refl }

pub Along-next : (value : List ℕ) (found : List V4) (left : List ℕ) (a : V4) (rest : List ℕ) (now : List V4) → Along value found left → length found < 8 → 4 ≤ length left
    → a ≡ record { bytes = take 4 left } → rest ≡ drop 4 left → now ≡ found ++ a ∷ [] → Along value now rest
Along-next value found left a rest now along room long is after more =
    let n = 7 - length found in
    let one : 8 - length found ≡ suc n = omega arith in
    let len : length now ≡ length found + 1 = ap length more ∙ length-append found (a ∷ []) in
    let fewer : 8 - length now ≡ n = omega (arith, len) in
    let split : quads left ≡ a ∷ quads rest = quads-step left long ∙ ap (λ (x : V4). x ∷ quads (drop 4 left)) (sym is) ∙ ap (λ (l : List ℕ). a ∷ quads l) (sym after) in
    record {
      few = omega (arith, len);
      all = rw (fewer, more) (append_assoc found (a ∷ []) (take n (quads rest)) ∙ ap (λ (l : List V4). found ++ l) (sym (ap (take (suc n)) split) ∙ ap (λ (k : ℕ). take k (quads left)) (sym one))) ∙ along.all;
    }

pub Along-full : (value : List ℕ) (found : List V4) (left : List ℕ) → Along value found left → 8 ≤ length found → found ≡ take 8 (quads value)
Along-full value found left along full =
    let none : 8 - length found ≡ 0 = omega arith in
    sym (append-nil found) ∙ ap (λ (k : ℕ). found ++ take k (quads left)) (sym none) ∙ along.all

take-nil : (n : ℕ) → take {A = V4} n [] ≡ []
take-nil zero = refl
take-nil (suc n) = refl

pub Along-short : (value : List ℕ) (found : List V4) (left : List ℕ) → Along value found left → length left < 4 → found ≡ take 8 (quads value)
Along-short value found left along short =
    sym (append-nil found) ∙ ap (λ (l : List V4). found ++ l) (sym (take-nil (8 - length found))) ∙ ap (λ (l : List V4). found ++ take (8 - length found) l) (sym (quads-none left short)) ∙ along.all
