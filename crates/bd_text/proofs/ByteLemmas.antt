-- Bytes with the same number are the same.
use Rattle.std.proofs.Common.{◌≡◌, ℕ, zero, suc, ◌+◌, ◌*◌, ◌/◌, ◌^◌, ◌<◌, ◌≤◌, List, [], ◌∷◌, length, take, get_or, refl, sym, ap, ◌∙◌, arith}
use Rattle.std.proofs.lemmas.Nat.{div-mul-add}
use Rattle.byteorder.specs.Endian.{big_from, little_from}
use Rattle.byteorder.specs.Numbers.{big_from-cons, big_from-lt, little_from-cons}

abbrev pub AreSmall : List ℕ → Type 0
AreSmall bytes = (i : ℕ) → get_or bytes i 0 < 256

pub little-same : (n : ℕ) (xs ys : List ℕ) → n ≤ length xs → n ≤ length ys → AreSmall xs → AreSmall ys → little_from 0 n xs ≡ little_from 0 n ys → take n xs ≡ take n ys
little-same zero xs ys left right small_xs small_ys same = refl
little-same (suc n) [] ys left right small_xs small_ys same = absurd (omega arith)
little-same (suc n) (x ∷ xs) [] left right small_xs small_ys same = absurd (omega arith)
little-same (suc n) (x ∷ xs) (y ∷ ys) left right small_xs small_ys same =
    let moved_x = little_from-cons 0 n x xs in
    let moved_y = little_from-cons 0 n y ys in
    let small_x = small_xs 0 in
    let small_y = small_ys 0 in
    let rest : little_from 0 n xs ≡ little_from 0 n ys = omega arith in
    let first : x ≡ y = omega arith in
    let more = little-same n xs ys (omega arith) (omega arith) (λ i. small_xs (suc i)) (λ i. small_ys (suc i)) rest in
    cc

pub big-same : (n : ℕ) (xs ys : List ℕ) → n ≤ length xs → n ≤ length ys → AreSmall xs → AreSmall ys → big_from 0 n xs ≡ big_from 0 n ys → take n xs ≡ take n ys
big-same zero xs ys left right small_xs small_ys same = refl
big-same (suc n) [] ys left right small_xs small_ys same = absurd (omega arith)
big-same (suc n) (x ∷ xs) [] left right small_xs small_ys same = absurd (omega arith)
big-same (suc n) (x ∷ xs) (y ∷ ys) left right small_xs small_ys same =
    let low_x = big_from-lt 0 n xs (λ i. small_xs (suc i)) in
    let low_y = big_from-lt 0 n ys (λ i. small_ys (suc i)) in
    let same' : x * 256 ^ n + big_from 0 n xs ≡ y * 256 ^ n + big_from 0 n ys = rw (← big_from-cons 0 n x xs, ← big_from-cons 0 n y ys) same in
    let first : x ≡ y = sym (div-mul-add x (256 ^ n) (big_from 0 n xs) low_x) ∙ ap (λ k. k / 256 ^ n) same' ∙ div-mul-add y (256 ^ n) (big_from 0 n ys) low_y in
    let rest : big_from 0 n xs ≡ big_from 0 n ys = let e = rw first at same' in omega arith in
    let more = big-same n xs ys (omega arith) (omega arith) (λ i. small_xs (suc i)) (λ i. small_ys (suc i)) rest in
    cc
