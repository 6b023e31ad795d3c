-- Zeros left out from the end.
use Rattle.std.proofs.Common.{◌≡◌, ◌≢◌, ℕ, ◌+◌, ◌-◌, ◌≤◌, ◌<◌, List, [], ◌∷◌, ◌++◌, length, take, get_or, refl, sym, ap, ◌∙◌, arith}
use Rattle.std.proofs.lemmas.Bool.{ne_eqb}
use Rattle.std.proofs.lemmas.List.{take_more}
use Rattle.dhcp_lease.specs.Texts.{before, trimmed}

trimmed-zero : (xs : List ℕ) → trimmed (xs ++ 0 ∷ []) ≡ trimmed xs
trimmed-zero [] = refl
trimmed-zero (x ∷ xs) = ap (before x) (trimmed-zero xs)

before-some : (x : ℕ) (xs : List ℕ) (b : ℕ) → before x (xs ++ b ∷ []) ≡ x ∷ (xs ++ b ∷ [])
before-some x [] b = refl
before-some x (y ∷ ys) b = refl

trimmed-last : (xs : List ℕ) (b : ℕ) → b ≢ 0 → trimmed (xs ++ b ∷ []) ≡ xs ++ b ∷ []
trimmed-last [] b ne = rw (ne_eqb _ _ ne) refl
trimmed-last (x ∷ xs) b ne = ap (before x) (trimmed-last xs b ne) ∙ before-some x xs b

-- the front that ends with this byte
front : (value : List ℕ) (end : ℕ) → 0 < end → end ≤ length value → take end value ≡ take (end - 1) value ++ get_or value (end - 1) 0 ∷ []
front value end some inside =
    let next : end ≡ end - 1 + 1 = omega arith in
    ap (λ (n : ℕ). take n value) next ∙ take_more value (end - 1) 0 (omega arith)

pub trimmed-shorter : (value : List ℕ) (end : ℕ) → 0 < end → end ≤ length value → get_or value (end - 1) 0 ≡ 0 → trimmed (take (end - 1) value) ≡ trimmed (take end value)
trimmed-shorter value end some inside is =
    sym (ap trimmed (front value end some inside ∙ ap (λ (b : ℕ). take (end - 1) value ++ b ∷ []) is) ∙ trimmed-zero (take (end - 1) value))

pub trimmed-stays : (value : List ℕ) (end : ℕ) → 0 < end → end ≤ length value → get_or value (end - 1) 0 ≢ 0 → trimmed (take end value) ≡ take end value
trimmed-stays value end some inside ne =
    let e = front value end some inside in
    ap trimmed e ∙ trimmed-last (take (end - 1) value) (get_or value (end - 1) 0) ne ∙ sym e
