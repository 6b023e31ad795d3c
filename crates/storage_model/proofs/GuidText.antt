-- A text spells at most one GUID: the one that its parts tell.
use Rattle.std.proofs.Common.{◌≡◌, ℕ, zero, suc, ◌/◌, ◌^◌, ◌<◌, ◌==◌, List, [], ◌∷◌, ◌++◌, length, take, drop, cond, Bool, true, false, ◌&&◌, nat_lt, Some, None, refl, sym, ap, subst, ◌∙◌, arith, length-drop, take-append-drop}
use Rattle.std.specs.Int.{byte_at, bytes_high_first, bytes_low_first}
use Rattle.std.specs.Char.{digit_value}
use Rattle.std.specs.List.{All, AllZip, join_with_byte, list_all, slice_split}
use Rattle.std.specs.Str.Parse.{AllDigits, digits_value}
use Rattle.std.proofs.lemmas.Bool.{and_from, and_parts, eq-eqb, eqb-true, lt-ltb, ltb-true, ne_eqb}
use Rattle.std.proofs.Math.Nat.{mod-lt}
use Rattle.std.proofs.lemmas.Option.{same_Some}
use Rattle.std.proofs.lemmas.Int.Digits.{digits_value-lt}
use Rattle.std.proofs.lemmas.List.{drop-drop, take_all}
use Rattle.std.proofs.lemmas.List.Elements.{All-cons, All-nil}
use Rattle.std.proofs.lemmas.List.Splits.{join_with_byte-slice_split, slice_split_at, slice_split_none}
use Rattle.byteorder.specs.Endian.{big_bytes, little_bytes}
use Rattle.byteorder.specs.Numbers.{big_number-reads_back, little_number-reads_back}
use Rattle.bd_bytes.specs.Bytes.{IsBytes}
use Rattle.bd_bytes.proofs.NumberLemmas.{IsBytes-drop, big_bytes-big_number, little_bytes-little_number}
use Rattle.bd_text.specs.declared.guid.Guid.{Guid}
use Rattle.bd_text.specs.Digits.{AreBytes, SpellsHex}
use Rattle.bd_text.specs.Guid.{SpellsGuid}
use Rattle.bd_text.specs.Marks.{dash}
use Rattle.storage_model.specs.Named.{are_fields, bytes_in, guid_in, guid_of, is_hex}

-- ---- digits

all_digits : (text : List ℕ) → list_all (λ c. nat_lt (digit_value c) 16) text ≡ true → AllDigits 16 text
all_digits [] test = tt
all_digits (c ∷ cs) test =
    let parts = and_parts (nat_lt (digit_value c) 16) (list_all (λ c. nat_lt (digit_value c) 16) cs) test in
    (ltb-true (digit_value c) 16 parts.0, all_digits cs parts.1)

digits_all : (text : List ℕ) → AllDigits 16 text → list_all (λ c. nat_lt (digit_value c) 16) text ≡ true
digits_all [] all = refl
digits_all (c ∷ cs) all = and_from (nat_lt (digit_value c) 16) (list_all (λ c. nat_lt (digit_value c) 16) cs) (lt-ltb (digit_value c) 16 all.0) (digits_all cs all.1)

hex_spells : (count : ℕ) (text : List ℕ) → is_hex count text ≡ true → SpellsHex count (digits_value 16 text) text
hex_spells count text test =
    let parts = and_parts (length text == count) (list_all (λ c. nat_lt (digit_value c) 16) text) test in
    record { width = eqb-true (length text) count parts.0; hex = record { digits = all_digits text parts.1; value = refl } }

spells_hex : (count number : ℕ) (text : List ℕ) → SpellsHex count number text → is_hex count text ≡ true
spells_hex count number text spells = and_from (length text == count) (list_all (λ c. nat_lt (digit_value c) 16) text) (eq-eqb (length text) count spells.width) (digits_all text spells.hex.digits)

hex_small : (count number : ℕ) (text : List ℕ) → SpellsHex count number text → number < 16 ^ count
hex_small count number text spells = subst (λ n. n < 16 ^ count) spells.hex.value (subst (λ n. digits_value 16 text < 16 ^ n) spells.width (digits_value-lt 16 text spells.hex.digits))

-- no dash stands among digits
no_dash : (text : List ℕ) → AllDigits 16 text → All (λ b. (b == dash) ≡ false) text
no_dash [] all = All-nil (λ b. (b == dash) ≡ false)
no_dash (c ∷ cs) all = All-cons (λ b. (b == dash) ≡ false) c cs (ne_eqb c dash (λ same. let value = ap digit_value same in let digit = all.0 in omega (arith, value, digit))) (no_dash cs all.1)

-- ---- the five parts

pub record Apart (a b c d e : ℕ) (text : List ℕ) : Type 0 where
  pub low : List ℕ
  pub middle : List ℕ
  pub high : List ℕ
  pub clock : List ℕ
  pub node : List ℕ
  pub low_is : SpellsHex 8 a low
  pub middle_is : SpellsHex 4 b middle
  pub high_is : SpellsHex 4 c high
  pub clock_is : SpellsHex 4 d clock
  pub node_is : SpellsHex 12 e node
  pub text_is : text ≡ low ++ 45 ∷ (middle ++ 45 ∷ (high ++ 45 ∷ (clock ++ 45 ∷ node)))

apart : (a b c d e : ℕ) (parts : List (List ℕ)) (text : List ℕ) → AllZip (λ (f : ℕ × ℕ). SpellsHex f.0 f.1) ((8, a) ∷ (4, b) ∷ (4, c) ∷ (4, d) ∷ (12, e) ∷ []) parts → text ≡ join_with_byte 45 parts → Apart a b c d e text
apart a b c d e [] text each joined = absurd each
apart a b c d e (p ∷ []) text each joined = absurd each.1
apart a b c d e (p ∷ q ∷ []) text each joined = absurd each.1.1
apart a b c d e (p ∷ q ∷ r ∷ []) text each joined = absurd each.1.1.1
apart a b c d e (p ∷ q ∷ r ∷ s ∷ []) text each joined = absurd each.1.1.1.1
apart a b c d e (p ∷ q ∷ r ∷ s ∷ t ∷ []) text each joined = record { low = p; middle = q; high = r; clock = s; node = t; low_is = each.0; middle_is = each.1.0; high_is = each.1.1.0; clock_is = each.1.1.1.0; node_is = each.1.1.1.1.0; text_is = joined }
apart a b c d e (p ∷ q ∷ r ∷ s ∷ t ∷ u ∷ rest) text each joined = absurd each.1.1.1.1.1

module _ (a b c d e : ℕ) (text : List ℕ) (x : Apart a b c d e text) where
  pub cut : slice_split (λ b. b == dash) text ≡ x.low ∷ x.middle ∷ x.high ∷ x.clock ∷ x.node ∷ []
  cut =
      ap (slice_split (λ b. b == dash)) x.text_is
      ∙ slice_split_at (λ b. b == dash) x.low 45 (x.middle ++ 45 ∷ (x.high ++ 45 ∷ (x.clock ++ 45 ∷ x.node))) (no_dash x.low x.low_is.hex.digits) refl
      ∙ ap (λ ps. x.low ∷ ps)
      (slice_split_at (λ b. b == dash) x.middle 45 (x.high ++ 45 ∷ (x.clock ++ 45 ∷ x.node)) (no_dash x.middle x.middle_is.hex.digits) refl
      ∙ ap (λ ps. x.middle ∷ ps)
      (slice_split_at (λ b. b == dash) x.high 45 (x.clock ++ 45 ∷ x.node) (no_dash x.high x.high_is.hex.digits) refl
      ∙ ap (λ ps. x.high ∷ ps)
      (slice_split_at (λ b. b == dash) x.clock 45 x.node (no_dash x.clock x.clock_is.hex.digits) refl
      ∙ ap (λ ps. x.clock ∷ ps) (slice_split_none (λ b. b == dash) x.node (no_dash x.node x.node_is.hex.digits)))))

  pub tested : are_fields x.low x.middle x.high x.clock x.node ≡ true
  tested =
      and_from _ _
      (and_from _ _ (and_from _ _ (and_from _ _ (spells_hex 8 a x.low x.low_is) (spells_hex 4 b x.middle x.middle_is)) (spells_hex 4 c x.high x.high_is)) (spells_hex 4 d x.clock x.clock_is))
      (spells_hex 12 e x.node x.node_is)

-- sixteen bytes by their fields
pieces : (xs : List ℕ) → length xs ≡ 16 → xs ≡ take 4 xs ++ (take 2 (drop 4 xs) ++ (take 2 (drop 6 xs) ++ (take 2 (drop 8 xs) ++ take 6 (drop 10 xs))))
pieces xs size =
    let first = take-append-drop 4 xs in
    let second : take 2 (drop 4 xs) ++ drop 6 xs ≡ drop 4 xs = ap (λ (t : List ℕ). take 2 (drop 4 xs) ++ t) (sym (drop-drop 2 4 xs)) ∙ take-append-drop 2 (drop 4 xs) in
    let third : take 2 (drop 6 xs) ++ drop 8 xs ≡ drop 6 xs = ap (λ (t : List ℕ). take 2 (drop 6 xs) ++ t) (sym (drop-drop 2 6 xs)) ∙ take-append-drop 2 (drop 6 xs) in
    let fourth : take 2 (drop 8 xs) ++ drop 10 xs ≡ drop 8 xs = ap (λ (t : List ℕ). take 2 (drop 8 xs) ++ t) (sym (drop-drop 2 8 xs)) ∙ take-append-drop 2 (drop 8 xs) in
    let last : take 6 (drop 10 xs) ≡ drop 10 xs = take_all 6 (drop 10 xs) (omega (arith, length-drop 10 xs)) in
    cc

-- the bytes whose fields a text spells are those that the digits make
pub spelled_is : (bytes text : List ℕ) → SpellsGuid bytes text → guid_of text ≡ Some (record { bytes = bytes })
spelled_is bytes text spelled =
    let x = apart _ _ _ _ _ spelled.fields.parts text spelled.fields.each spelled.fields.joined in
    let long = λ (n : ℕ). length-drop n bytes in
    let size = spelled.sixteen.size in
    let small = λ (n : ℕ). IsBytes-drop n bytes spelled.sixteen.small in
    let low : little_bytes 4 (digits_value 16 x.low) ≡ take 4 bytes = ap (little_bytes 4) x.low_is.hex.value ∙ little_bytes-little_number 4 bytes spelled.sixteen.small (omega (arith, size)) in
    let middle : little_bytes 2 (digits_value 16 x.middle) ≡ take 2 (drop 4 bytes) = ap (little_bytes 2) x.middle_is.hex.value ∙ little_bytes-little_number 2 (drop 4 bytes) (small 4) (omega (arith, size, long 4)) in
    let high : little_bytes 2 (digits_value 16 x.high) ≡ take 2 (drop 6 bytes) = ap (little_bytes 2) x.high_is.hex.value ∙ little_bytes-little_number 2 (drop 6 bytes) (small 6) (omega (arith, size, long 6)) in
    let clock : big_bytes 2 (digits_value 16 x.clock) ≡ take 2 (drop 8 bytes) = ap (big_bytes 2) x.clock_is.hex.value ∙ big_bytes-big_number 2 (drop 8 bytes) (small 8) (omega (arith, size, long 8)) in
    let node : big_bytes 6 (digits_value 16 x.node) ≡ take 6 (drop 10 bytes) = ap (big_bytes 6) x.node_is.hex.value ∙ big_bytes-big_number 6 (drop 10 bytes) (small 10) (omega (arith, size, long 10)) in
    let made : bytes_in x.low x.middle x.high x.clock x.node ≡ bytes =
    (λ i. low i ++ (middle i ++ (high i ++ (clock i ++ node i)))) ∙ sym (pieces bytes size) in
    ap guid_in (cut _ _ _ _ _ text x)
    ∙ ap (λ (b : Bool). cond b (Some (record { bytes = bytes_in x.low x.middle x.high x.clock x.node })) None) (tested _ _ _ _ _ text x)
    ∙ (λ i. Some (record { bytes = made i }))

-- ---- and back

byte_small : (i n : ℕ) → byte_at i n < 256
byte_small zero n = mod-lt n (omega arith)
byte_small (suc i) n = mod-lt (n / 256 ^ suc i) (omega arith)

small_cons : (x : ℕ) (xs : List ℕ) → x < 256 → IsBytes xs → IsBytes (x ∷ xs)
small_cons x xs first rest zero = first
small_cons x xs first rest (suc i) = rest i

small_join : (xs ys : List ℕ) → IsBytes xs → IsBytes ys → IsBytes (xs ++ ys)
small_join [] ys one other = other
small_join (x ∷ xs) ys one other = small_cons x (xs ++ ys) (one 0) (small_join xs ys (λ i. one (suc i)) other)

small_low : (i n x : ℕ) → IsBytes (bytes_low_first i n x)
small_low i zero x = λ k. omega arith
small_low i (suc n) x = small_cons (byte_at i x) (bytes_low_first (suc i) n x) (byte_small i x) (small_low (suc i) n x)

small_high : (n x : ℕ) → IsBytes (bytes_high_first n x)
small_high zero x = λ k. omega arith
small_high (suc n) x = small_cons (byte_at n x) (bytes_high_first n x) (byte_small n x) (small_high n x)

sixteen : (low middle high clock node : List ℕ) → AreBytes 16 (bytes_in low middle high clock node)
sixteen low middle high clock node =
    let last = big_bytes 6 (digits_value 16 node) in
    let fourth = big_bytes 2 (digits_value 16 clock) ++ last in
    let third = little_bytes 2 (digits_value 16 high) ++ fourth in
    let second = little_bytes 2 (digits_value 16 middle) ++ third in
    record {
      size = refl;
      small =
          small_join (little_bytes 4 (digits_value 16 low)) second (small_low 0 4 (digits_value 16 low))
          (small_join (little_bytes 2 (digits_value 16 middle)) third (small_low 0 2 (digits_value 16 middle))
          (small_join (little_bytes 2 (digits_value 16 high)) fourth (small_low 0 2 (digits_value 16 high))
          (small_join (big_bytes 2 (digits_value 16 clock)) last (small_high 2 (digits_value 16 clock)) (small_high 6 (digits_value 16 node)))));
    }

spells_as : (count number : ℕ) (text : List ℕ) → SpellsHex count (digits_value 16 text) text → number ≡ digits_value 16 text → SpellsHex count number text
spells_as count number text spells same = subst (λ n. SpellsHex count n text) (sym same) spells

spell : (low middle high clock node text : List ℕ) → slice_split (λ b. b == dash) text ≡ low ∷ middle ∷ high ∷ clock ∷ node ∷ [] → are_fields low middle high clock node ≡ true → SpellsGuid (bytes_in low middle high clock node) text
spell low middle high clock node text parts test =
    let four = and_parts (is_hex 8 low && is_hex 4 middle && is_hex 4 high && is_hex 4 clock) (is_hex 12 node) test in
    let three = and_parts (is_hex 8 low && is_hex 4 middle && is_hex 4 high) (is_hex 4 clock) four.0 in
    let two = and_parts (is_hex 8 low && is_hex 4 middle) (is_hex 4 high) three.0 in
    let one = and_parts (is_hex 8 low) (is_hex 4 middle) two.0 in
    let low_is = hex_spells 8 low one.0 in
    let middle_is = hex_spells 4 middle one.1 in
    let high_is = hex_spells 4 high two.1 in
    let clock_is = hex_spells 4 clock three.1 in
    let node_is = hex_spells 12 node four.1 in
    let last = big_bytes 6 (digits_value 16 node) in
    let fourth = big_bytes 2 (digits_value 16 clock) ++ last in
    let third = little_bytes 2 (digits_value 16 high) ++ fourth in
    let second = little_bytes 2 (digits_value 16 middle) ++ third in
    record {
      sixteen = sixteen low middle high clock node;
      fields = record {
        parts = low ∷ middle ∷ high ∷ clock ∷ node ∷ [];
        each = (
          spells_as 8 _ low low_is (little_number-reads_back 4 (digits_value 16 low) second (hex_small 8 _ low low_is)),
          (
            spells_as 4 _ middle middle_is (little_number-reads_back 2 (digits_value 16 middle) third (hex_small 4 _ middle middle_is)),
            (
              spells_as 4 _ high high_is (little_number-reads_back 2 (digits_value 16 high) fourth (hex_small 4 _ high high_is)),
              (
                spells_as 4 _ clock clock_is (big_number-reads_back 2 (digits_value 16 clock) last (hex_small 4 _ clock clock_is)),
                (spells_as 12 _ node node_is (big_number-reads_back 6 (digits_value 16 node) [] (hex_small 12 _ node node_is)), tt),
              ),
            ),
          ),
        );
        joined = sym (join_with_byte-slice_split dash text) ∙ ap (join_with_byte dash) parts;
      };
    }

by_test : (low middle high clock node text : List ℕ) (g : Guid) (b : Bool) → slice_split (λ b. b == dash) text ≡ low ∷ middle ∷ high ∷ clock ∷ node ∷ [] → are_fields low middle high clock node ≡ b
    → cond b (Some (record { bytes = bytes_in low middle high clock node })) None ≡ Some g → SpellsGuid g.bytes text
by_test low middle high clock node text g true parts test is =
    subst (λ (h : Guid). SpellsGuid h.bytes text) (same_Some _ _ is) (spell low middle high clock node text parts test)
by_test low middle high clock node text g false parts test is = absurd cc

by_parts : (parts : List (List ℕ)) (text : List ℕ) (g : Guid) → slice_split (λ b. b == dash) text ≡ parts → guid_in parts ≡ Some g → SpellsGuid g.bytes text
by_parts [] text g is found = absurd cc
by_parts (p ∷ []) text g is found = absurd cc
by_parts (p ∷ q ∷ []) text g is found = absurd cc
by_parts (p ∷ q ∷ r ∷ []) text g is found = absurd cc
by_parts (p ∷ q ∷ r ∷ s ∷ []) text g is found = absurd cc
by_parts (p ∷ q ∷ r ∷ s ∷ t ∷ []) text g is found = by_test p q r s t text g (are_fields p q r s t) is refl found
by_parts (p ∷ q ∷ r ∷ s ∷ t ∷ u ∷ rest) text g is found = absurd cc

pub is_spelled : (text : List ℕ) (g : Guid) → guid_of text ≡ Some g → SpellsGuid g.bytes text
is_spelled text g found = by_parts (slice_split (λ b. b == dash) text) text g refl found

-- the text spells one GUID
pub one_guid : (g h : Guid) (text : List ℕ) → SpellsGuid g.bytes text → SpellsGuid h.bytes text → g ≡ h
one_guid g h text one other = same_Some g h (sym (spelled_is g.bytes text one) ∙ spelled_is h.bytes text other)
