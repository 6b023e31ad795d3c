-- Digits read one by one, and printed one by one.
use Rattle.std.proofs.Common.{◌≡◌, ℕ, zero, suc, ◌+◌, ◌-◌, ◌*◌, ◌/◌, ◌%◌, ◌^◌, ◌<◌, ◌≤◌, List, [], ◌∷◌, ◌++◌, length, get_or, take, refl, ap, ◌∙◌, arith, add-one, eqb, true}
use Rattle.std.specs.Char.{digit_value}
use Rattle.std.specs.Str.Parse.{AllDigits, digits_value}
use Rattle.std.proofs.Math.Nat.{mul-le-mul_left, mul_comm, pow-le-pow_right, pow-succ', pow-zero, div-lt_iff_lt-mul, div-add-mod', mod-lt}
use Rattle.std.proofs.lemmas.Bool.{agree_below_at, eqb-true}
use Rattle.std.proofs.lemmas.List.{length_push, length-take-le}
use Rattle.std.proofs.lemmas.Int.Digits.{digits_push, digits_more, digits_value_push, digits_value_more, digits_value-lt}
use Rattle.bd_text.specs.declared.digits.Case.{Case}
use Rattle.bd_text.specs.declared.digits.Case.TheVariants.{Lower, Upper}
use Rattle.bd_text.specs.Digits.{Writes, SpellsHex, digits_in, numeral}

-- the digits read so far write the number, which as many digits of base 16 could write too
pub record ReadsTo (base number : ℕ) (digits : List ℕ) : Type 0 where
  pub all : AllDigits base digits
  pub value : digits_value base digits ≡ number
  pub small : number < 16 ^ length digits

step_small : (base n d k : ℕ) → base ≤ 16 → n < 16 ^ k → d < base → n * base + d < 16 ^ (k + 1)
step_small base n d k high low digit =
    let top : n * base ≤ n * 16 = mul-le-mul_left n high in
    let next : 16 ^ (k + 1) ≡ 16 * 16 ^ k = rw add-one (pow-succ' 16 k) in
    omega arith

-- of twelve digits, one more leaves room
pub ReadsTo-room : (base n d : ℕ) (digits : List ℕ) (i : ℕ) → base ≤ 16 → length digits ≤ 12 → i < length digits → ReadsTo base n (take i digits) → d < base → n * base + d < 2 ^ 48
ReadsTo-room base n d digits i high short inside so_far digit =
    let count : length (take i digits) ≡ i = length-take-le i digits (omega arith) in
    let most : 16 ^ (i + 1) ≤ 16 ^ 12 = let next : i + 1 ≤ 12 = omega arith in pow-le-pow_right (omega arith) next in
    let top = step_small base n d i high (rw count at so_far.small) digit in
    omega arith

pub ReadsTo-more : (base n d : ℕ) (digits : List ℕ) (i : ℕ) → base ≤ 16 → i < length digits → ReadsTo base n (take i digits) → d ≡ digit_value (get_or digits i 0) → d < base → ReadsTo base (n * base + d) (take (i + 1) digits)
ReadsTo-more base n d digits i high inside so_far here digit =
    let below : digit_value (get_or digits i 0) < base = omega arith in
    let count : length (take i digits) ≡ i = length-take-le i digits (omega arith) in
    let count' : length (take (i + 1) digits) ≡ i + 1 = length-take-le (i + 1) digits (omega arith) in
    record {
      all = digits_more base digits i inside so_far.all below;
      value = digits_value_more base digits i inside ∙ rw (so_far.value, here) refl;
      small = rw count' (step_small base n d i high (rw count at so_far.small) digit);
    }

-- each character among digits is one
pub AllDigits-at : (base : ℕ) (text : List ℕ) (i : ℕ) → AllDigits base text → i < length text → digit_value (get_or text i 0) < base
AllDigits-at base [] i all inside = absurd (omega arith)
AllDigits-at base (c ∷ cs) zero all inside = all.0
AllDigits-at base (c ∷ cs) (suc i) all inside = AllDigits-at base cs i all.1 (omega arith)

-- what is printed as a digit has its value
pub digit_value-digit : (letters : Case) (d : ℕ) → d < 16 → digit_value (get_or (digits_in letters) d 0) ≡ d
digit_value-digit Lower d small = eqb-true _ _ (agree_below_at (λ k. eqb (digit_value (get_or (digits_in Lower) k 0)) k) (λ k. true) 16 d refl small)
digit_value-digit Upper d small = eqb-true _ _ (agree_below_at (λ k. eqb (digit_value (get_or (digits_in Upper) k 0)) k) (λ k. true) 16 d refl small)

pub length-numeral : (letters : Case) (base count number : ℕ) → length (numeral letters base count number) ≡ count
unfolding numeral
length-numeral letters base zero number = refl
length-numeral letters base (suc count) number = length_push (numeral letters base count (number / base)) _ ∙ omega (arith, length-numeral letters base count (number / base))

pub numeral-none : (letters : Case) (base number : ℕ) → numeral letters base 0 number ≡ []
unfolding numeral
numeral-none letters base number = refl

pub numeral-more : (letters : Case) (base count number : ℕ) → 0 < count → numeral letters base count number ≡ numeral letters base (count - 1) (number / base) ++ get_or (digits_in letters) (number % base) 0 ∷ []
unfolding numeral
numeral-more letters base zero number some = absurd (omega arith)
numeral-more letters base (suc count) number some =
    let back : suc count - 1 ≡ count = omega arith in rw back refl

-- a numeral with room for the number writes it
pub Writes-numeral : (letters : Case) (base count number : ℕ) → 2 ≤ base → base ≤ 16 → number < base ^ count → Writes base number (numeral letters base count number)
unfolding numeral
Writes-numeral letters base zero number low high fits =
    let one : base ^ 0 ≡ 1 = pow-zero base in record { digits = tt; value = omega arith }
Writes-numeral letters base (suc count) number low high fits =
    let some : 0 < base = omega arith in
    let split : number / base * base + number % base ≡ number = div-add-mod' number base in
    let digit : number % base < base = mod-lt number some in
    let fits' : number / base < base ^ count = (div-lt_iff_lt-mul some).1 (rw (mul_comm, ← pow-succ' base count) fits) in
    let front = Writes-numeral letters base count (number / base) low high fits' in
    let last : digit_value (get_or (digits_in letters) (number % base) 0) ≡ number % base = digit_value-digit letters (number % base) (omega arith) in
    record {
      digits = digits_push base (numeral letters base count (number / base)) (get_or (digits_in letters) (number % base) 0) front.digits (rw last digit);
      value = digits_value_push base (numeral letters base count (number / base)) (get_or (digits_in letters) (number % base) 0) ∙ rw (front.value, last) split;
    }

-- so many digits with room for the number spell it
pub SpellsHex-numeral : (letters : Case) (count number : ℕ) → number < 16 ^ count → SpellsHex count number (numeral letters 16 count number)
SpellsHex-numeral letters count number fits = record { width = length-numeral letters 16 count number; hex = Writes-numeral letters 16 count number (omega arith) (omega arith) fits }

-- what two hexadecimal digits spell is a byte
pub SpellsHex-byte : (number : ℕ) (text : List ℕ) → SpellsHex 2 number text → number < 256
SpellsHex-byte number text spelled =
    let bound = digits_value-lt 16 text spelled.hex.digits in
    let wide : 16 ^ length text ≡ 256 = ap (λ k. 16 ^ k) spelled.width in
    omega (arith, spelled.hex.value)
