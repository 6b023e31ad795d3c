-- A GUID's fields, and the bytes that have them.
use Rattle.std.proofs.Common.{◌≡◌, ℕ, ◌+◌, List, [], ◌∷◌, ◌++◌, length, take, drop, get_or, map, append_assoc, refl, sym, ap, ◌∙◌, arith, length-drop, get_or-drop, take-append-drop}
use Rattle.std.proofs.lemmas.List.{drop-drop, take_all}
use Rattle.byteorder.specs.Endian.{big_number, little_number}
use Rattle.std.specs.List.{AllZip, join_with_byte}
use Rattle.bd_text.specs.Digits.{AreBytes, SpellsHex, numeral}
use Rattle.bd_text.specs.declared.digits.Case.TheVariants.{Lower}
use Rattle.bd_text.proofs.DigitLemmas.{SpellsHex-numeral}
use Rattle.bd_text.specs.Guid.{SpellsFields, fields_text, guid_fields}
use Rattle.bd_text.specs.Fields.{FieldsFit, written}
use Rattle.bd_text.specs.declared.guid.Fields.{Fields}
use Rattle.bd_text.proofs.ByteLemmas.{AreSmall, big-same, little-same}

-- sixteen bytes by their fields
pieces : (xs : List ℕ) → length xs ≡ 16 → xs ≡ take 4 xs ++ (take 2 (drop 4 xs) ++ (take 2 (drop 6 xs) ++ (take 2 (drop 8 xs) ++ take 6 (drop 10 xs))))
pieces xs size =
    let first = take-append-drop 4 xs in
    let second : take 2 (drop 4 xs) ++ drop 6 xs ≡ drop 4 xs = ap (λ (t : List ℕ). take 2 (drop 4 xs) ++ t) (sym (drop-drop 2 4 xs)) ∙ take-append-drop 2 (drop 4 xs) in
    let third : take 2 (drop 6 xs) ++ drop 8 xs ≡ drop 6 xs = ap (λ (t : List ℕ). take 2 (drop 6 xs) ++ t) (sym (drop-drop 2 6 xs)) ∙ take-append-drop 2 (drop 6 xs) in
    let fourth : take 2 (drop 8 xs) ++ drop 10 xs ≡ drop 8 xs = ap (λ (t : List ℕ). take 2 (drop 8 xs) ++ t) (sym (drop-drop 2 8 xs)) ∙ take-append-drop 2 (drop 8 xs) in
    let last : take 6 (drop 10 xs) ≡ drop 10 xs = take_all 6 (drop 10 xs) (omega (arith, length-drop 10 xs)) in
    cc

small-drop : (n : ℕ) (xs : List ℕ) → AreSmall xs → AreSmall (drop n xs)
small-drop n xs small = λ i. rw get_or-drop (small (n + i))

-- bytes with the same fields are the same
pub guid_fields-same : (xs ys : List ℕ) → AreBytes 16 xs → AreBytes 16 ys → guid_fields xs ≡ guid_fields ys → xs ≡ ys
guid_fields-same xs ys left right same =
    let number : ℕ → List (ℕ × ℕ) → ℕ = λ i fields. (get_or fields i (0, 0)).1 in
    let left_long = λ (n : ℕ). length-drop n xs in
    let right_long = λ (n : ℕ). length-drop n ys in
    let low = little-same 4 xs ys (omega (arith, left.size)) (omega (arith, right.size)) left.small right.small (ap (number 0) same) in
    let middle = little-same 2 (drop 4 xs) (drop 4 ys) (omega (arith, left.size, left_long 4)) (omega (arith, right.size, right_long 4)) (small-drop 4 xs left.small) (small-drop 4 ys right.small) (ap (number 1) same) in
    let high = little-same 2 (drop 6 xs) (drop 6 ys) (omega (arith, left.size, left_long 6)) (omega (arith, right.size, right_long 6)) (small-drop 6 xs left.small) (small-drop 6 ys right.small) (ap (number 2) same) in
    let clock = big-same 2 (drop 8 xs) (drop 8 ys) (omega (arith, left.size, left_long 8)) (omega (arith, right.size, right_long 8)) (small-drop 8 xs left.small) (small-drop 8 ys right.small) (ap (number 3) same) in
    let node = big-same 6 (drop 10 xs) (drop 10 ys) (omega (arith, left.size, left_long 10)) (omega (arith, right.size, right_long 10)) (small-drop 10 xs left.small) (small-drop 10 ys right.small) (ap (number 4) same) in
    pieces xs left.size ∙ rw (low, middle, high, clock, node) (sym (pieces ys right.size))

-- five fields and the dashes between them
pub record Apart (a b c d e : ℕ) (text : List ℕ) : Type 0 where
  pub low : List ℕ
  pub middle : List ℕ
  pub high : List ℕ
  pub clock : List ℕ
  pub node : List ℕ
  pub low_is : SpellsHex 8 a low
  pub middle_is : SpellsHex 4 b middle
  pub high_is : SpellsHex 4 c high
  pub clock_is : SpellsHex 4 d clock
  pub node_is : SpellsHex 12 e node
  pub text_is : text ≡ low ++ 45 ∷ (middle ++ 45 ∷ (high ++ 45 ∷ (clock ++ 45 ∷ node)))

-- the fields' parts, from the list of them
pub apart : (a b c d e : ℕ) (parts : List (List ℕ)) (text : List ℕ) → AllZip (λ (f : ℕ × ℕ). SpellsHex f.0 f.1) ((8, a) ∷ (4, b) ∷ (4, c) ∷ (4, d) ∷ (12, e) ∷ []) parts → text ≡ join_with_byte 45 parts → Apart a b c d e text
apart a b c d e [] text each joined = absurd each
apart a b c d e (p ∷ []) text each joined = absurd each.1
apart a b c d e (p ∷ q ∷ []) text each joined = absurd each.1.1
apart a b c d e (p ∷ q ∷ r ∷ []) text each joined = absurd each.1.1.1
apart a b c d e (p ∷ q ∷ r ∷ s ∷ []) text each joined = absurd each.1.1.1.1
apart a b c d e (p ∷ q ∷ r ∷ s ∷ t ∷ []) text each joined = record { low = p; middle = q; high = r; clock = s; node = t; low_is = each.0; middle_is = each.1.0; high_is = each.1.1.0; clock_is = each.1.1.1.0; node_is = each.1.1.1.1.0; text_is = joined }
apart a b c d e (p ∷ q ∷ r ∷ s ∷ t ∷ u ∷ rest) text each joined = absurd each.1.1.1.1.1

pub apart-of : (f : Fields) (text : List ℕ) → SpellsFields (written f) text → Apart f.low f.middle f.high f.clock f.node text
apart-of f text spelled = apart f.low f.middle f.high f.clock f.node spelled.parts text spelled.each spelled.joined

pub same_fields : (f g : Fields) → f.low ≡ g.low → f.middle ≡ g.middle → f.high ≡ g.high → f.clock ≡ g.clock → f.node ≡ g.node → f ≡ g
same_fields f g low middle high clock node = λ i. record { low = low i; middle = middle i; high = high i; clock = clock i; node = node i }

-- five parts appended one by one
pub appended : (a b c d e : List ℕ) → ((((((((a ++ 45 ∷ []) ++ b) ++ 45 ∷ []) ++ c) ++ 45 ∷ []) ++ d) ++ 45 ∷ []) ++ e) ≡ a ++ 45 ∷ (b ++ 45 ∷ (c ++ 45 ∷ (d ++ 45 ∷ e)))
appended a b c d e = simp append_assoc

-- the fields that are printed are spelled
pub SpellsFields-printed : (f : Fields) → FieldsFit f → SpellsFields (written f) (fields_text (written f))
SpellsFields-printed f fit = record {
  parts = map (λ (p : ℕ × ℕ). numeral Lower 16 p.0 p.1) (written f);
  each = (SpellsHex-numeral Lower 8 f.low fit.low_fits, (SpellsHex-numeral Lower 4 f.middle fit.middle_fits, (SpellsHex-numeral Lower 4 f.high fit.high_fits, (SpellsHex-numeral Lower 4 f.clock fit.clock_fits, (SpellsHex-numeral Lower 12 f.node fit.node_fits, tt)))));
  joined = refl;
}

pub fields_at : List ℕ → Fields
fields_at bytes = record { low = little_number 4 bytes; middle = little_number 2 (drop 4 bytes); high = little_number 2 (drop 6 bytes); clock = big_number 2 (drop 8 bytes); node = big_number 6 (drop 10 bytes) }

pub written-fields_at : (bytes : List ℕ) → written (fields_at bytes) ≡ guid_fields bytes
unfolding fields_at
written-fields_at bytes = refl
