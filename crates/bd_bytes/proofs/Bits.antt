-- The bits of numbers: how many, what they make, and how they add.
use Rattle.std.proofs.Common.{◌≡◌, ℕ, zero, suc, ◌+◌, ◌*◌, ◌/◌, ◌%◌, ◌^◌, ◌<◌, eqb, Bool, true, false, List, [], ◌∷◌, ◌++◌, length, refl, ap, zero-add, pow-suc, arith, lit<, ◌⊎◌, inl, inr}
use Rattle.std.specs.Prelude.{replicate, bit_xor}
use mathlib.Core.Bool.{xor}
use Rattle.std.proofs.lemmas.Nat.{xor_shr, xor_mod}
use Rattle.std.proofs.lemmas.Bool.{cases_lt}
use Rattle.bd_bytes.specs.Crc.{bits, number, add}

pub length-bits : (k n : ℕ) → length (bits k n) ≡ k
unfolding bits
length-bits zero n = refl
length-bits (suc k) n = ap suc (length-bits k (n / 2))

pub bits-suc : (k n : ℕ) → bits (suc k) n ≡ eqb (n % 2) 1 ∷ bits k (n / 2)
unfolding bits
bits-suc k n = refl

-- a number is even or odd
pub parity : (n : ℕ) → (n % 2 ≡ 0) ⊎ (n % 2 ≡ 1)
parity n = elim (cases_lt (n % 2) 1) [ inl lt ↦ inl (omega arith) | inr le ↦ inr (omega arith) ]

lowest-xor : (a b : ℕ) → eqb (bit_xor a b % 2) 1 ≡ xor (eqb (a % 2) 1) (eqb (b % 2) 1)
unfolding xor
lowest-xor a b =
    elim (parity a) [
      | inl p ↦ elim (parity b) [ inl q ↦ rw (xor_mod a b 1, p, q) refl | inr q ↦ rw (xor_mod a b 1, p, q) refl ]
      | inr p ↦ elim (parity b) [ inl q ↦ rw (xor_mod a b 1, p, q) refl | inr q ↦ rw (xor_mod a b 1, p, q) refl ]
    ]

pub bits-xor : (k a b : ℕ) → bits k (bit_xor a b) ≡ add (bits k a) (bits k b)
unfolding bits add
bits-xor zero a b = refl
bits-xor (suc k) a b = rw (lowest-xor a b, xor_shr a b 1, bits-xor k (a / 2) (b / 2)) refl

bits-zero : (k : ℕ) → bits k 0 ≡ replicate k false
unfolding bits
bits-zero zero = refl
bits-zero (suc k) = ap (λ (bs : List Bool). false ∷ bs) (bits-zero k)

half_below : (k n : ℕ) → n < 2 ^ suc k → n / 2 < 2 ^ k
half_below k n lt = let e : 2 ^ suc k ≡ 2 ^ k * 2 = pow-suc 2 k in omega arith

-- the bits above a number's own are zeros
pub bits-add : (k j n : ℕ) → n < 2 ^ k → bits (k + j) n ≡ bits k n ++ replicate j false
unfolding bits
bits-add zero j n lt = let e : n ≡ 0 = omega arith in rw (e, zero-add j) (bits-zero j)
bits-add (suc k) j n lt =
    let e : suc k + j ≡ suc (k + j) = omega arith in
    rw (e, bits-add k j (n / 2) (half_below k n lt)) refl

pub number-bits : (k n : ℕ) → n < 2 ^ k → number (bits k n) ≡ n
unfolding bits number
number-bits zero n lt = omega arith
number-bits (suc k) n lt =
    let lower = number-bits k (n / 2) (half_below k n lt) in
    elim (parity n) [
      | inl p ↦ rw (p, lower) (omega arith)
      | inr p ↦ rw (p, lower) (omega arith)
    ]

pub number-lt : (bs : List Bool) → number bs < 2 ^ length bs
unfolding number
number-lt [] = lit< tt
number-lt (true ∷ bs) = omega (arith, pow-suc 2 (length bs), number-lt bs)
number-lt (false ∷ bs) = omega (arith, pow-suc 2 (length bs), number-lt bs)
