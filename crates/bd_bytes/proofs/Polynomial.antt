-- Sums of polynomials whose coefficients are bits, and how long sums and remainders are.
use Rattle.std.proofs.Common.{◌≡◌, ℕ, zero, suc, ◌+◌, ◌-◌, ◌≤◌, Bool, true, false, List, [], ◌∷◌, ◌++◌, length, refl, ap, add-zero, arith}
use Rattle.std.specs.Prelude.{replicate}
use mathlib.Core.Bool.{xor}
use Rattle.bd_bytes.specs.Crc.{add, generator, divide, remainder}

xor_assoc : (a b c : Bool) → xor a (xor b c) ≡ xor (xor a b) c
unfolding xor
xor_assoc true true true = refl
xor_assoc true true false = refl
xor_assoc true false true = refl
xor_assoc true false false = refl
xor_assoc false true true = refl
xor_assoc false true false = refl
xor_assoc false false true = refl
xor_assoc false false false = refl

xor_comm : (b c : Bool) → xor b c ≡ xor c b
unfolding xor
xor_comm true true = refl
xor_comm true false = refl
xor_comm false true = refl
xor_comm false false = refl

xor-false : (c : Bool) → xor c false ≡ c
unfolding xor
xor-false true = refl
xor-false false = refl

pub false-xor : (c : Bool) → xor false c ≡ c
unfolding xor
false-xor true = refl
false-xor false = refl

pub add-cons : (c d : Bool) (p q : List Bool) → add (c ∷ p) (d ∷ q) ≡ xor c d ∷ add p q
unfolding add
add-cons c d p q = refl

pub add-add : (p q r : List Bool) → length r ≤ length q → length q ≤ length p → add p (add q r) ≡ add (add p q) r
unfolding add
add-add p [] [] h k = refl
add-add p [] (e ∷ r) h k = absurd (omega arith)
add-add [] (d ∷ q) r h k = absurd (omega arith)
add-add (c ∷ p) (d ∷ q) [] h k = refl
add-add (c ∷ p) (d ∷ q) (e ∷ r) h k =
    rw (add-add p q r (omega arith) (omega arith)) (ap (λ (b : Bool). b ∷ add (add p q) r) (xor_assoc c d e))

add-zeros : (p : List Bool) (j : ℕ) → j ≤ length p → add p (replicate j false) ≡ p
unfolding add
add-zeros p zero h = refl
add-zeros [] (suc j) h = absurd (omega arith)
add-zeros (c ∷ p) (suc j) h = rw (add-zeros p j (omega arith), xor-false c) refl

pub zeros-add : (q : List Bool) (k : ℕ) → length q ≡ k → add (replicate k false) q ≡ q
unfolding add
zeros-add [] zero e = refl
zeros-add [] (suc k) e = absurd cc
zeros-add (d ∷ q) zero e = absurd cc
zeros-add (d ∷ q) (suc k) e = rw (false-xor d, zeros-add q k (omega arith)) refl

-- zeros at the end add nothing
pub add-append-zeros : (p q : List Bool) (j : ℕ) → length q + j ≤ length p → add p (q ++ replicate j false) ≡ add p q
unfolding add
add-append-zeros p [] j h = add-zeros p j (omega arith)
add-append-zeros [] (d ∷ q) j h = absurd (omega arith)
add-append-zeros (c ∷ p) (d ∷ q) j h =
    ap (λ (r : List Bool). xor c d ∷ r) (add-append-zeros p q j (omega arith))

-- a front may be added to the register in place of being divided
pub add-append : (front rest register : List Bool) → length front ≤ length register
    → add (front ++ rest) register ≡ add (replicate (length front) false ++ rest) (add register front)
unfolding add
add-append [] rest register h = refl
add-append (b ∷ front) rest [] h = absurd (omega arith)
add-append (b ∷ front) rest (r ∷ register) h =
    rw (add-append front rest register (omega arith), xor_comm b r, false-xor (xor r b)) refl

pub length-add : (p q : List Bool) → length (add p q) ≡ length p
unfolding add
length-add [] [] = refl
length-add [] (d ∷ q) = refl
length-add (c ∷ p) [] = refl
length-add (c ∷ p) (d ∷ q) = ap suc (length-add p q)

length-divide : (steps : ℕ) (p : List Bool) → steps ≤ length p → length (divide steps p) + steps ≡ length p
unfolding divide
length-divide zero p h = add-zero (length p)
length-divide (suc steps) [] h = absurd (omega arith)
length-divide (suc steps) (true ∷ p) h =
    let same = length-add p generator in
    omega (arith, length-divide steps (add p generator) (omega arith))
length-divide (suc steps) (false ∷ p) h = omega (arith, length-divide steps p (omega arith))

pub length-remainder : (p : List Bool) → 32 ≤ length p → length (remainder p) ≡ 32
unfolding remainder
length-remainder p h = omega (arith, length-divide (length p - 32) p (omega arith))
