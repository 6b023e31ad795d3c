-- The bytes of a number that was read from bytes are those bytes.
use Rattle.std.proofs.Common.{◌≡◌, ℕ, zero, suc, ◌+◌, ◌*◌, ◌/◌, ◌^◌, ◌<◌, ◌≤◌, List, [], ◌∷◌, length, take, drop, refl, sym, ap, ◌∙◌, arith}
use Rattle.std.proofs.Math.Nat.{mod-lt}
use Rattle.std.proofs.lemmas.List.{append-nil, length-take}
use Rattle.std.proofs.lemmas.Nat.{div-mul-add}
use Rattle.std.specs.Int.{byte_at, bytes_high_first, bytes_low_first}
use Rattle.byteorder.specs.Endian.{big_number, little_number, big_bytes, little_bytes}
use Rattle.byteorder.specs.Numbers.{big_from-cons, big_from-lt, big_from-take, length-bytes_high_first, length-bytes_low_first, little_from-cons, little_from-lt, little_from-take, little_number-reads_back, big_number-reads_back}
use Rattle.bd_bytes.specs.Bytes.{IsBytes}

IsBytes-tail : (x : ℕ) (xs : List ℕ) → IsBytes (x ∷ xs) → IsBytes xs
IsBytes-tail x xs h i = h (suc i)

IsBytes-cons : (x : ℕ) (xs : List ℕ) → x < 256 → IsBytes xs → IsBytes (x ∷ xs)
IsBytes-cons x xs lt h zero = lt
IsBytes-cons x xs lt h (suc i) = h i

pub IsBytes-drop : (n : ℕ) (xs : List ℕ) → IsBytes xs → IsBytes (drop n xs)
IsBytes-drop zero xs h = h
IsBytes-drop (suc n) [] h = h
IsBytes-drop (suc n) (x ∷ xs) h = IsBytes-drop n xs (IsBytes-tail x xs h)

pub IsBytes-take : (n : ℕ) (xs : List ℕ) → IsBytes xs → IsBytes (take n xs)
IsBytes-take zero xs h = λ i. omega arith
IsBytes-take (suc n) [] h = h
IsBytes-take (suc n) (x ∷ xs) h = IsBytes-cons x (take n xs) (h 0) (IsBytes-take n xs (IsBytes-tail x xs h))

byte_at-lt : (i n : ℕ) → byte_at i n < 256
byte_at-lt zero n = mod-lt n (omega arith)
byte_at-lt (suc i) n = mod-lt (n / 256 ^ suc i) (omega arith)

IsBytes-bytes_high_first : (n x : ℕ) → IsBytes (bytes_high_first n x)
IsBytes-bytes_high_first zero x = λ i. omega arith
IsBytes-bytes_high_first (suc n) x = IsBytes-cons (byte_at n x) (bytes_high_first n x) (byte_at-lt n x) (IsBytes-bytes_high_first n x)

IsBytes-bytes_low_first : (i n x : ℕ) → IsBytes (bytes_low_first i n x)
IsBytes-bytes_low_first i zero x = λ k. omega arith
IsBytes-bytes_low_first i (suc n) x = IsBytes-cons (byte_at i x) (bytes_low_first (suc i) n x) (byte_at-lt i x) (IsBytes-bytes_low_first (suc i) n x)

-- the highest digit and the rest of a number are one pair
same_digits : (x y a b w : ℕ) → a < w → b < w → x * w + a ≡ y * w + b → (x ≡ y) × (a ≡ b)
same_digits x y a b w below below' e =
    let same : x ≡ y = sym (div-mul-add x w a below) ∙ ap (λ (s : ℕ). s / w) e ∙ div-mul-add y w b below' in
    (same, let f : y * w + a ≡ y * w + b = rw same at e in omega arith)

-- bytes that make the same number, the highest first, are the same
pub big_number-injective : (n : ℕ) (xs ys : List ℕ) → IsBytes xs → IsBytes ys → length xs ≡ n → length ys ≡ n
    → big_number n xs ≡ big_number n ys → xs ≡ ys
big_number-injective zero [] [] h k p q e = refl
big_number-injective zero [] (y ∷ ys) h k p q e = absurd (omega arith)
big_number-injective zero (x ∷ xs) ys h k p q e = absurd (omega arith)
big_number-injective (suc n) [] ys h k p q e = absurd (omega arith)
big_number-injective (suc n) (x ∷ xs) [] h k p q e = absurd (omega arith)
big_number-injective (suc n) (x ∷ xs) (y ∷ ys) h k p q e =
    let hs = IsBytes-tail x xs h in
    let ks = IsBytes-tail y ys k in
    let moved = big_from-cons 0 n x xs in
    let moved' = big_from-cons 0 n y ys in
    let whole : x * 256 ^ n + big_number n xs ≡ y * 256 ^ n + big_number n ys = omega arith in
    let same = same_digits x y (big_number n xs) (big_number n ys) (256 ^ n) (big_from-lt 0 n xs hs) (big_from-lt 0 n ys ks) whole in
    rw (same.0, big_number-injective n xs ys hs ks (omega arith) (omega arith) same.1) refl

-- bytes that make the same number, the lowest first, are the same
pub little_number-injective : (n : ℕ) (xs ys : List ℕ) → IsBytes xs → IsBytes ys → length xs ≡ n → length ys ≡ n
    → little_number n xs ≡ little_number n ys → xs ≡ ys
little_number-injective zero [] [] h k p q e = refl
little_number-injective zero [] (y ∷ ys) h k p q e = absurd (omega arith)
little_number-injective zero (x ∷ xs) ys h k p q e = absurd (omega arith)
little_number-injective (suc n) [] ys h k p q e = absurd (omega arith)
little_number-injective (suc n) (x ∷ xs) [] h k p q e = absurd (omega arith)
little_number-injective (suc n) (x ∷ xs) (y ∷ ys) h k p q e =
    let moved = little_from-cons 0 n x xs in
    let moved' = little_from-cons 0 n y ys in
    let low = h 0 in
    let low' = k 0 in
    let same : x ≡ y = omega arith in
    let rest : little_number n xs ≡ little_number n ys = omega arith in
    rw (same, little_number-injective n xs ys (IsBytes-tail x xs h) (IsBytes-tail y ys k) (omega arith) (omega arith) rest) refl

-- the bytes of the number in some bytes, the highest first, are those
pub big_bytes-big_number : (n : ℕ) (xs : List ℕ) → IsBytes xs → n ≤ length xs → big_bytes n (big_number n xs) ≡ take n xs
big_bytes-big_number n xs h long =
    let number = big_number n xs in
    let same : big_number n (bytes_high_first n number) ≡ number =
    ap (big_number n) (sym (append-nil (bytes_high_first n number))) ∙ big_number-reads_back n number [] (big_from-lt 0 n xs h) in
    big_number-injective n (bytes_high_first n number) (take n xs) (IsBytes-bytes_high_first n number) (IsBytes-take n xs h) (length-bytes_high_first n number) (omega (arith, length-take n xs)) (same ∙ sym (big_from-take 0 n n xs (omega arith)))

-- the bytes of the number in some bytes, the lowest first, are those
pub little_bytes-little_number : (n : ℕ) (xs : List ℕ) → IsBytes xs → n ≤ length xs → little_bytes n (little_number n xs) ≡ take n xs
little_bytes-little_number n xs h long =
    let number = little_number n xs in
    let same : little_number n (bytes_low_first 0 n number) ≡ number =
    ap (little_number n) (sym (append-nil (bytes_low_first 0 n number))) ∙ little_number-reads_back n number [] (little_from-lt 0 n xs h) in
    little_number-injective n (bytes_low_first 0 n number) (take n xs) (IsBytes-bytes_low_first 0 n number) (IsBytes-take n xs h) (length-bytes_low_first 0 n number) (omega (arith, length-take n xs)) (same ∙ sym (little_from-take 0 n n xs (omega arith)))
