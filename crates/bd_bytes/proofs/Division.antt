-- A register of 32 bits divides as long division does: step by step, byte by byte, and at the end.
use Rattle.std.proofs.Common.{◌≡◌, ℕ, suc, ◌+◌, ◌-◌, ◌/◌, ◌%◌, ◌^◌, ◌<◌, ◌≤◌, eqb, Bool, false, cond, true, List, [], ◌∷◌, ◌++◌, length, refl, sym, ap, ◌∙◌, append_assoc, length-append, arith, inl, inr}
use Rattle.std.specs.Prelude.{replicate, bit_and, bit_xor}
use Rattle.std.specs.Int.{w32, bit_not}
use Rattle.std.specs.Int.Bits.{xor_add_and}
use Rattle.std.proofs.lemmas.Nat.{and_mask}
use Rattle.std.proofs.lemmas.List.Concat.{flat_map-cons}
use Rattle.bd_bytes.specs.Crc.{bits, number, add, generator, divide, remainder, complement, message, crc32_of}
use Rattle.bd_bytes.specs.Register.{remainder_with, Divides}
use Rattle.bd_bytes.proofs.Bits.{length-bits, bits-suc, bits-xor, bits-add, number-bits, parity}
use Rattle.bd_bytes.proofs.Polynomial.{add-add, add-cons, add-append, add-append-zeros, false-xor, length-add, zeros-add}

generator-is : generator ≡ bits 32 0xEDB8_8320
unfolding generator bits
generator-is = refl

divide-cons : (steps : ℕ) (c : Bool) (p : List Bool) → divide (suc steps) (c ∷ p) ≡ divide steps (cond c (add p generator) p)
unfolding divide
divide-cons steps c p = refl

-- a remainder takes a step for each coefficient of the polynomial
remainder_with-divide : (register : ℕ) (p : List Bool)
    → remainder_with register p ≡ divide (length p) (add (p ++ replicate 32 false) (bits 32 register))
unfolding remainder_with remainder
remainder_with-divide register p =
    let shifted = p ++ replicate 32 false in
    let long : length (add shifted (bits 32 register)) ≡ length p + 32 =
    length-add shifted (bits 32 register) ∙ length-append p (replicate 32 false) in
    let steps : length (add shifted (bits 32 register)) - 32 ≡ length p = omega arith in
    ap (λ (n : ℕ). divide n (add shifted (bits 32 register))) steps

-- ---- one step

-- the register without its lowest bit has a zero above the others
add-half : (n : ℕ) (p : List Bool) → n < 2 ^ 32 → 32 ≤ length p → add p (bits 32 (n / 2)) ≡ add p (bits 31 (n / 2))
add-half n p lt long =
    let fits : length (bits 31 (n / 2)) + 1 ≤ length p = omega (arith, length-bits 31 (n / 2)) in
    ap (add p) (bits-add 31 1 (n / 2) (omega arith)) ∙ add-append-zeros p (bits 31 (n / 2)) 1 fits

-- what a step leaves of a polynomial with a register in front
divide-first : (steps n : ℕ) (p : List Bool)
    → divide (suc steps) (add (false ∷ p) (bits 32 n))
    ≡ divide steps (cond (eqb (n % 2) 1) (add (add p (bits 31 (n / 2))) generator) (add p (bits 31 (n / 2))))
divide-first steps n p =
    let lowest = eqb (n % 2) 1 in
    let others = add p (bits 31 (n / 2)) in
    ap (λ (r : List Bool). divide (suc steps) (add (false ∷ p) r)) (bits-suc 31 n)
    ∙ ap (divide (suc steps)) (add-cons false lowest p (bits 31 (n / 2)))
    ∙ ap (λ (b : Bool). divide (suc steps) (b ∷ others)) (false-xor lowest)
    ∙ divide-cons steps lowest others

length-shifted : (p : List Bool) → 32 ≤ length (p ++ replicate 32 false)
length-shifted p = omega (arith, length-append p (replicate 32 false))

-- a step where the lowest bit is zero
pub Divides-even : (n : ℕ) → n < 2 ^ 32 → (bit_and n 1 ≡ 1 → ⊥) → Divides (false ∷ []) n (n / 2)
Divides-even n lt even p =
    let shifted = p ++ replicate 32 false in
    let lowest : bit_and n 1 ≡ n % 2 = and_mask n 1 in
    let low : n % 2 ≡ 0 = elim (parity n) [ inl zero ↦ zero | inr one ↦ absurd (even (lowest ∙ one)) ] in
    let step : divide (suc (length p)) (add (false ∷ shifted) (bits 32 n)) ≡ divide (length p) (add shifted (bits 32 (n / 2))) =
    divide-first (length p) n shifted ∙ rw low (ap (divide (length p)) (sym (add-half n shifted lt (length-shifted p)))) in
    remainder_with-divide n (false ∷ p) ∙ step ∙ sym (remainder_with-divide (n / 2) p)

-- a step where it is one
pub Divides-odd : (n : ℕ) → n < 2 ^ 32 → bit_and n 1 ≡ 1 → Divides (false ∷ []) n (bit_xor (n / 2) 0xEDB8_8320)
Divides-odd n lt odd p =
    let half = bits 32 (n / 2) in
    let after = bit_xor (n / 2) 0xEDB8_8320 in
    let shifted = p ++ replicate 32 false in
    let lowest : bit_and n 1 ≡ n % 2 = and_mask n 1 in
    let low : n % 2 ≡ 1 = sym lowest ∙ odd in
    let long = length-shifted p in
    let wide : length generator ≤ length half = rw generator-is (omega (arith, length-bits 32 0xEDB8_8320, length-bits 32 (n / 2))) in
    let short : length half ≤ length shifted = omega (arith, length-bits 32 (n / 2)) in
    let sums : add shifted (bits 32 after) ≡ add (add shifted (bits 31 (n / 2))) generator =
    ap (add shifted) (bits-xor 32 (n / 2) 0xEDB8_8320 ∙ ap (add half) (sym generator-is))
    ∙ add-add shifted half generator wide short
    ∙ ap (λ (q : List Bool). add q generator) (add-half n shifted lt long) in
    let step : divide (suc (length p)) (add (false ∷ shifted) (bits 32 n)) ≡ divide (length p) (add shifted (bits 32 after)) =
    divide-first (length p) n shifted ∙ rw low (ap (divide (length p)) (sym sums)) in
    remainder_with-divide n (false ∷ p) ∙ step ∙ sym (remainder_with-divide after p)

-- ---- one byte

-- a byte in front may be mixed into the register
pub remainder_with-mixed : (register byte : ℕ) (rest : List Bool) → byte < 2 ^ 8
    → remainder_with register (bits 8 byte ++ rest) ≡ remainder_with (bit_xor register byte) (replicate 8 false ++ rest)
unfolding remainder_with
remainder_with-mixed register byte rest lt =
    let old = bits 32 register in
    let padded : add old (bits 32 byte) ≡ add old (bits 8 byte) =
    ap (add old) (bits-add 8 24 byte lt) ∙ add-append-zeros old (bits 8 byte) 24 (omega (arith, length-bits 8 byte, length-bits 32 register)) in
    let swapped = add-append (bits 8 byte) (rest ++ replicate 32 false) old (omega (arith, length-bits 8 byte, length-bits 32 register)) in
    ap remainder (
    ap (λ (p : List Bool). add p old) (append_assoc (bits 8 byte) rest (replicate 32 false))
    ∙ swapped
    ∙ rw (length-bits 8 byte, ← padded, ← bits-xor 32 register byte) refl
    )

-- one of the eight steps for a byte
pub Divides-step : (i n after : ℕ) (rest : List Bool) → i < 8 → Divides (false ∷ []) n after
    → remainder_with n (replicate (8 - i) false ++ rest) ≡ remainder_with after (replicate (8 - (i + 1)) false ++ rest)
Divides-step i n after rest lt step =
    let left : 8 - i ≡ suc (8 - (i + 1)) = omega arith in
    rw left (step (replicate (8 - (i + 1)) false ++ rest))

-- ---- the message

pub remainder_with-message : (b : ℕ) (bytes : List ℕ) (n after : ℕ) → Divides (bits 8 b) n after
    → remainder_with n (message (b ∷ bytes)) ≡ remainder_with after (message bytes)
unfolding message
remainder_with-message b bytes n after step = ap (remainder_with n) (flat_map-cons (bits 8) b bytes) ∙ step (message bytes)

message-nil : message [] ≡ []
unfolding message
message-nil = refl

-- with no coefficient left the remainder is the register
remainder_with-nil : (n : ℕ) → remainder_with n [] ≡ bits 32 n
unfolding divide
remainder_with-nil n = remainder_with-divide n [] ∙ zeros-add (bits 32 n) 32 (length-bits 32 n)

ones : replicate 32 true ≡ bits 32 0xffff_ffff
unfolding bits
ones = refl

bit_not-xor : (n : ℕ) → n < 2 ^ 32 → bit_not w32 n ≡ bit_xor n 0xffff_ffff
bit_not-xor n lt =
    let sum = xor_add_and n 0xffff_ffff in
    let own : bit_and n 0xffff_ffff ≡ n % 2 ^ 32 = and_mask n 32 in
    omega arith

-- the last register, complemented, is the checksum
pub crc32_of-register : (n : ℕ) (bytes rest : List ℕ) → n < 2 ^ 32 → rest ≡ []
    → remainder_with 0xffff_ffff (message bytes) ≡ remainder_with n (message rest) → bit_not w32 n ≡ crc32_of bytes
unfolding crc32_of complement remainder_with
crc32_of-register n bytes rest lt none e =
    let shifted = message bytes ++ replicate 32 false in
    let last : remainder_with n (message rest) ≡ bits 32 n =
    ap (λ (r : List ℕ). remainder_with n (message r)) none ∙ ap (remainder_with n) message-nil ∙ remainder_with-nil n in
    let whole : remainder (add shifted (replicate 32 true)) ≡ bits 32 n =
    ap (λ (q : List Bool). remainder (add shifted q)) ones ∙ e ∙ last in
    let flipped = bit_not-xor n lt in
    let value : number (bits 32 (bit_not w32 n)) ≡ bit_not w32 n = number-bits 32 (bit_not w32 n) (omega arith) in
    sym value ∙ ap number (
    ap (bits 32) flipped
    ∙ bits-xor 32 n 0xffff_ffff
    ∙ ap (add (bits 32 n)) (sym ones)
    ∙ ap (λ (q : List Bool). add q (replicate 32 true)) (sym whole)
    )
