-- Two hexadecimal digits for each byte, as `hex` reads and prints them.
use Rattle.std.proofs.Common.{◌≡◌, ℕ, ◌+◌, ◌*◌, ◌/◌, ◌%◌, ◌<◌, ◌≤◌, List, [], ◌∷◌, ◌++◌, length, Some, None, Option, Result, Ok, Err, true, refl, sym, ap, ◌∙◌, arith, append_assoc, get_or, length-append, length-take, take}
use Rattle.std.specs.Char.{digit_value}
use Rattle.std.specs.List.{AllZip, concat}
use Rattle.std.specs.Prelude.{MatchResult, OnSome, is_some}
use Rattle.std.specs.Result.{is_ok}
use Rattle.std.proofs.lemmas.Bool.Decides.{nat_tests}
use Rattle.std.proofs.lemmas.List.{take_more}
use Rattle.hex.specs.declared.error.FromHexError.{FromHexError}
use Rattle.hex.specs.Hex.{decode_pairs, decode_sized, digit_or_error, encode_lower, encode_with, hex_digit_value, lower_digits, ◌>>=◌, IsBytes}
use Rattle.hex.proofs.HexLemmas.{IsDigits-lower_digits, decode_of-even, decode_pairs-encode_with, decode_sized-ok, decode_sized-twice, length-encode_with}
use Rattle.hex.proofs.Pairs.{cons_byte, decode_pairs-ok_pair}
use Rattle.bd_text.specs.Digits.{SpellsHex}
use Rattle.tlv_text.specs.Spelled.{SpellsHexadecimal, SpellsPairs}

-- a digit that is read has that value
digit_value-read : (c v : ℕ) → hex_digit_value c ≡ Some v → (digit_value c ≡ v) × (v < 16)
digit_value-read c v read = grind (arith, nat_tests)

-- and each digit is read
hex_digit_value-digit : (c : ℕ) → digit_value c < 16 → hex_digit_value c ≡ Some (digit_value c)
hex_digit_value-digit c digit = grind (arith, nat_tests)

-- what two digits and the pairs behind them were read as
record ReadAs (high low : Option ℕ) (rest : Result (List ℕ) FromHexError) (bytes : List ℕ) : Type 0 where
  first : ℕ
  second : ℕ
  others : List ℕ
  high_is : high ≡ Some first
  low_is : low ≡ Some second
  rest_is : rest ≡ Ok others
  bytes_are : (first * 16 + second) ∷ others ≡ bytes

reads_as : (a b i : ℕ) (high low : Option ℕ) (rest : Result (List ℕ) FromHexError) (bytes : List ℕ)
    → ((digit_or_error a i high >>= (λ h. digit_or_error b (i + 1) low >>= (λ l. Ok (h * 16 + l))))
    >>= (λ byte. rest >>= (λ others. Ok (byte ∷ others)))) ≡ Ok bytes
    → ReadAs high low rest bytes
reads_as a b i (Some first) (Some second) (Ok others) bytes read =
    record { first = first; second = second; others = others; high_is = refl; low_is = refl; rest_is = refl; bytes_are = cc read }
reads_as a b i (Some first) (Some second) (Err e) bytes read = absurd (cc read)
reads_as a b i (Some first) None rest bytes read = absurd (cc read)
reads_as a b i None low rest bytes read = absurd (cc read)

-- two digits spell their byte
SpellsHex-pair : (a b first second : ℕ) → hex_digit_value a ≡ Some first → hex_digit_value b ≡ Some second
    → SpellsHex 2 (first * 16 + second) (a ∷ b ∷ [])
SpellsHex-pair a b first second high low =
    let h = digit_value-read a first high in
    let l = digit_value-read b second low in
    record { width = refl; hex = record { digits = (omega arith, (omega arith, tt)); value = omega arith } }

-- the bytes that are read are spelled
pub SpellsPairs-read : (i : ℕ) (text bytes : List ℕ) → decode_pairs i text ≡ Ok bytes → SpellsPairs bytes text
unfolding decode_pairs
SpellsPairs-read i [] bytes read = let none : [] ≡ bytes = cc read in rw (← none) (record { pairs = []; each = tt; joined = refl })
SpellsPairs-read i (a ∷ []) bytes read = absurd (cc read)
SpellsPairs-read i (a ∷ b ∷ text) bytes read =
    let parts = reads_as a b i (hex_digit_value a) (hex_digit_value b) (decode_pairs (i + 2) text) bytes read in
    let more = SpellsPairs-read (i + 2) text parts.others parts.rest_is in
    rw (← parts.bytes_are) (record {
      pairs = (a ∷ b ∷ []) ∷ more.pairs;
      each = (SpellsHex-pair a b parts.first parts.second parts.high_is parts.low_is, more.each);
      joined = ap (λ (t : List ℕ). a ∷ b ∷ t) more.joined;
    })

-- two digits that spell a byte are read as it
pair-read : (i byte : ℕ) (pair text : List ℕ) → SpellsHex 2 byte pair
    → decode_pairs i (pair ++ text) ≡ cons_byte byte (decode_pairs (i + 2) text)
pair-read i byte [] text spelled = absurd (omega (arith, spelled.width))
pair-read i byte (a ∷ []) text spelled = absurd (omega (arith, spelled.width))
pair-read i byte (a ∷ b ∷ c ∷ more) text spelled = absurd (omega (arith, spelled.width))
pair-read i byte (a ∷ b ∷ []) text spelled =
    let digits = spelled.hex.digits in
    let high = hex_digit_value-digit a digits.0 in
    let low = hex_digit_value-digit b digits.1.0 in
    let value = spelled.hex.value in
    let sum : digit_value a * 16 + digit_value b ≡ byte = omega arith in
    decode_pairs-ok_pair i a b byte text (rw (high, low) (ap Ok sum))

pairs-read : (i : ℕ) (bytes : List ℕ) (pairs : List (List ℕ)) → AllZip (SpellsHex 2) bytes pairs
    → decode_pairs i (concat pairs) ≡ Ok bytes
unfolding decode_pairs
pairs-read i [] [] each = refl
pairs-read i [] (pair ∷ pairs) each = absurd each
pairs-read i (byte ∷ bytes) [] each = absurd each
pairs-read i (byte ∷ bytes) (pair ∷ pairs) each =
    pair-read i byte pair (concat pairs) each.0 ∙ ap (cons_byte byte) (pairs-read (i + 2) bytes pairs each.1)

length-pairs : (bytes : List ℕ) (pairs : List (List ℕ)) → AllZip (SpellsHex 2) bytes pairs
    → length (concat pairs) ≡ 2 * length bytes
length-pairs [] [] each = refl
length-pairs [] (pair ∷ pairs) each = absurd each
length-pairs (byte ∷ bytes) [] each = absurd each
length-pairs (byte ∷ bytes) (pair ∷ pairs) each =
    let width = each.0.width in
    let rest = length-pairs bytes pairs each.1 in
    omega (arith, length-append pair (concat pairs))

-- what spells bytes has two digits for each
pub length-spelled : (bytes text : List ℕ) → SpellsPairs bytes text → length text ≡ 2 * length bytes
length-spelled bytes text spelled = ap length spelled.joined ∙ length-pairs bytes spelled.pairs spelled.each

-- and is read
pub decode_sized-spelled : (bytes text : List ℕ) (n : ℕ) → length text / 2 ≡ n → SpellsPairs bytes text
    → decode_sized text n ≡ Ok bytes
decode_sized-spelled bytes text n half spelled =
    let long = length-spelled bytes text spelled in
    decode_sized-twice text n (omega arith) ∙ decode_of-even text (omega arith)
    ∙ ap (decode_pairs 0) spelled.joined ∙ pairs-read 0 bytes spelled.pairs spelled.each

pub SpellsPairs-decoded : (text bytes : List ℕ) (n : ℕ) → decode_sized text n ≡ Ok bytes → SpellsPairs bytes text
SpellsPairs-decoded text bytes n read =
    let long = decode_sized-ok text n bytes read in
    SpellsPairs-read 0 text bytes (sym (decode_of-even text (omega arith)) ∙ sym (decode_sized-twice text n long) ∙ read)

-- what is printed is spelled
pub SpellsHexadecimal-printed : (bytes text : List ℕ) → length bytes ≤ 255 → IsBytes bytes → text ≡ encode_lower bytes
    → SpellsHexadecimal bytes text
SpellsHexadecimal-printed bytes text short small printed = record {
  short = short;
  paired = rw printed (SpellsPairs-read 0 (encode_lower bytes) bytes (decode_pairs-encode_with lower_digits IsDigits-lower_digits 0 bytes small));
}

encode_with-append : (digits front back : List ℕ)
    → encode_with digits (front ++ back) ≡ encode_with digits front ++ encode_with digits back
unfolding encode_with
encode_with-append digits [] back = refl
encode_with-append digits (byte ∷ front) back = rw (encode_with-append digits front back) refl

-- one byte more is printed
pub encode_lower-more : (bytes : List ℕ) (i : ℕ) (text : List ℕ) → i < length bytes → text ≡ encode_lower (take i bytes)
    → (text ++ get_or lower_digits (get_or bytes i 0 / 16) 0 ∷ []) ++ get_or lower_digits (get_or bytes i 0 % 16) 0 ∷ []
    ≡ encode_lower (take (i + 1) bytes)
unfolding encode_with
encode_lower-more bytes i text inside printed =
    let byte = get_or bytes i 0 in
    rw (take_more bytes i 0 inside, encode_with-append lower_digits (take i bytes) (byte ∷ []), printed)
    (append_assoc (encode_lower (take i bytes)) (get_or lower_digits (byte / 16) 0 ∷ []) (get_or lower_digits (byte % 16) 0 ∷ []))

-- so long is what is printed of the first bytes
pub length-printed : (bytes : List ℕ) (i : ℕ) (text : List ℕ) → text ≡ encode_lower (take i bytes) → length text ≤ 2 * i
length-printed bytes i text printed =
    let long = length-encode_with lower_digits (take i bytes) in
    let front = length-take i bytes in
    let same = ap length printed in
    omega arith

-- a reading that succeeds has written what was read
pub read_ok : (d : Result (List ℕ) FromHexError) (r : Result Unit FromHexError) (written : List ℕ)
    → MatchResult d (λ bytes. (r ≡ Ok tt) × (written ≡ bytes)) (λ e. r ≡ Err e) → is_ok r ≡ true → d ≡ Ok written
read_ok (Ok bytes) r written known ok = ap Ok (sym known.1)
read_ok (Err e) r written known ok = let refused = ap is_ok known in absurd cc

-- what can be read is written
pub read_as : (d : Result (List ℕ) FromHexError) (r : Result Unit FromHexError) (written bytes : List ℕ)
    → MatchResult d (λ bytes. (r ≡ Ok tt) × (written ≡ bytes)) (λ e. r ≡ Err e) → d ≡ Ok bytes → (is_ok r ≡ true) × (written ≡ bytes)
read_as (Ok others) r written bytes known read = let same : others ≡ bytes = cc read in (ap is_ok known.0, known.1 ∙ same)
read_as (Err e) r written bytes known read = absurd (cc read)

-- what holds where there is a value
pub OnSome-if : {T : Type 0} (o : Option T) (P : Type 0) → (is_some o ≡ true → P) → OnSome o P
OnSome-if (Some x) P known = known refl
OnSome-if None P known = tt
