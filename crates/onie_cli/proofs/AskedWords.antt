-- Words of a command line, by their places.
use Rattle.std.proofs.Common.{◌≡◌, inl, inr, ℕ, ◌<◌, ◌≤◌, eqb, true, false, List, [], ◌∷◌, ◌++◌, length, get_or, refl, sym, ap, ◌∙◌, arith}
use Rattle.std.specs.Prelude.{map, not, codes, ◌+◌, ◌*◌, ◌&&◌, nat_lt, Some, None}
use Rattle.std.specs.Char.{digit_value}
use Rattle.std.specs.Str.{bytes_eq}
use Rattle.bd_text.specs.Digits.{SpellsHex}
use Rattle.onie_cli.specs.Words.{Usage, asked, byte_of, code_in, field_for}
use Rattle.std.specs.Cmp.Lexicographic.{pointwise}
use Rattle.std.proofs.lemmas.Bool.{eqb-true, and_parts, cases_Bool, false_from_ne_true, lt-ltb, ltb-true, not-false}

four : {X : Type 0} (ws : List X) (a b c d : X) → 4 ≤ length ws → length ws < 5 → a ≡ get_or ws 0 a → b ≡ get_or ws 1 b → c ≡ get_or ws 2 c → d ≡ get_or ws 3 d → ws ≡ a ∷ b ∷ c ∷ d ∷ []
four [] a b c d h k e f g i = absurd (omega arith)
four (w ∷ []) a b c d h k e f g i = absurd (omega arith)
four (w ∷ x ∷ []) a b c d h k e f g i = absurd (omega arith)
four (w ∷ x ∷ y ∷ []) a b c d h k e f g i = absurd (omega arith)
four (w ∷ x ∷ y ∷ z ∷ []) a b c d h k e f g i = cc
four (w ∷ x ∷ y ∷ z ∷ v ∷ vs) a b c d h k e f g i = absurd (omega arith)

two : {X : Type 0} (ws : List X) (a b : X) → 2 ≤ length ws → length ws < 3 → a ≡ get_or ws 0 a → b ≡ get_or ws 1 b → ws ≡ a ∷ b ∷ []
two [] a b h k e f = absurd (omega arith)
two (w ∷ []) a b h k e f = absurd (omega arith)
two (w ∷ x ∷ []) a b h k e f = cc
two (w ∷ x ∷ y ∷ vs) a b h k e f = absurd (omega arith)

three : {X : Type 0} (ws : List X) (a b c : X) → 3 ≤ length ws → length ws < 4 → a ≡ get_or ws 0 a → b ≡ get_or ws 1 b → c ≡ get_or ws 2 c → ws ≡ a ∷ b ∷ c ∷ []
three [] a b c h k e f g = absurd (omega arith)
three (w ∷ []) a b c h k e f g = absurd (omega arith)
three (w ∷ x ∷ []) a b c h k e f g = absurd (omega arith)
three (w ∷ x ∷ y ∷ []) a b c h k e f g = cc
three (w ∷ x ∷ y ∷ z ∷ vs) a b c h k e f g = absurd (omega arith)

both : {x y : ℕ} {xs ys : List ℕ} → x ≡ y → xs ≡ ys → x ∷ xs ≡ y ∷ ys
both e h = cc

pointwise_same : (xs ys : List ℕ) → pointwise eqb xs ys ≡ true → xs ≡ ys
pointwise_same [] [] e = refl
pointwise_same [] (y ∷ ys) e = absurd cc
pointwise_same (x ∷ xs) [] e = absurd cc
pointwise_same (x ∷ xs) (y ∷ ys) e = let parts = and_parts (eqb x y) (pointwise eqb xs ys) e in both (eqb-true x y parts.0) (pointwise_same xs ys parts.1)

-- a text that does not differ from a word is that word
pub is_word : (text shown word : List ℕ) → shown ≡ text → false ≡ not (pointwise eqb shown word) → text ≡ word
is_word text shown word s e = sym s ∙ pointwise_same shown word (not-false _ (sym e))

-- two words, three and four, by their places
pub two_words : {X : Type 0} (v : X → List ℕ) (ws : List X) (a b : X) (first second : List ℕ) → 2 ≤ length ws → length ws < 3 → a ≡ get_or ws 0 a → b ≡ get_or ws 1 b → v a ≡ first → v b ≡ second → map v ws ≡ first ∷ second ∷ []
two_words v ws a b first second h k e f one other = ap (map v) (two ws a b h k e f) ∙ (λ i. one i ∷ other i ∷ [])

pub three_words : {X : Type 0} (v : X → List ℕ) (ws : List X) (a b c : X) (first second third : List ℕ) → 3 ≤ length ws → length ws < 4 → a ≡ get_or ws 0 a → b ≡ get_or ws 1 b → c ≡ get_or ws 2 c → v a ≡ first → v b ≡ second → v c ≡ third
    → map v ws ≡ first ∷ second ∷ third ∷ []
three_words v ws a b c first second third h k e f g one other last = ap (map v) (three ws a b c h k e f g) ∙ (λ i. one i ∷ other i ∷ last i ∷ [])

pub four_words : {X : Type 0} (v : X → List ℕ) (ws : List X) (a b c d : X) → 4 ≤ length ws → length ws < 5 → a ≡ get_or ws 0 a → b ≡ get_or ws 1 b → c ≡ get_or ws 2 c → d ≡ get_or ws 3 d → map v ws ≡ v a ∷ v b ∷ v c ∷ v d ∷ []
four_words v ws a b c d h k e f g i = ap (map v) (four ws a b c d h k e f g i)

-- a text that is none of a word's bytes
pub differs : (text word : List ℕ) → (text ≡ word → ⊥) → bytes_eq text word ≡ false
differs text word other = false_from_ne_true (bytes_eq text word) (λ e. other (pointwise_same text word e))

one_word : {X : Type 0} (ws : List X) (a : X) → 1 ≤ length ws → length ws < 2 → a ≡ get_or ws 0 a → ws ≡ a ∷ []
one_word [] a h k e = absurd (omega arith)
one_word (w ∷ []) a h k e = cc
one_word (w ∷ x ∷ vs) a h k e = absurd (omega arith)

-- a word that is none of the commands
pub no_command : {X : Type 0} (v : X → List ℕ) (ws : List X) (a : X) (text : List ℕ) → 1 ≤ length ws → length ws < 2 → a ≡ get_or ws 0 a → text ≡ v a
    → (text ≡ codes "status" → ⊥) → (text ≡ codes "discover" → ⊥) → (text ≡ codes "eeprom" → ⊥) → asked (map v ws) ≡ Usage
no_command {X} v ws a text h k e shown no_status no_discover no_eeprom =
    ap (λ (l : List X). asked (map v l)) (one_word ws a h k e) ∙ ap (λ (t : List ℕ). asked (t ∷ [])) (sym shown)
    ∙ rw (differs text (codes "status") no_status, differs text (codes "discover") no_discover, differs text (codes "eeprom") no_eeprom) refl

-- the words of `eeprom set`
pub asked_field : (words : List (List ℕ)) (a b c text : List ℕ) → words ≡ a ∷ b ∷ c ∷ text ∷ [] → a ≡ codes "eeprom" → b ≡ codes "set" → asked words ≡ field_for (code_in c) text
asked_field words a b c text w e f = ap asked w ∙ rw (e, f) refl

-- the code that is written
pub code_spelled : (word digits : List ℕ) (code : ℕ) → SpellsHex 2 code digits → word ≡ codes "0x" ++ digits → code_in word ≡ Some code
code_spelled word [] code spells w = absurd (let e = spells.width in omega (arith, e))
code_spelled word (h ∷ []) code spells w = absurd (let e = spells.width in omega (arith, e))
code_spelled word (h ∷ l ∷ []) code spells w =
    let d = spells.hex.digits in
    let value = spells.hex.value in
    ap code_in w ∙ rw (lt-ltb (digit_value h) 16 d.0, lt-ltb (digit_value l) 16 d.1.0) (ap Some (let e : digit_value h * 16 + digit_value l ≡ code = omega (arith, value) in e))
code_spelled word (h ∷ l ∷ x ∷ rest) code spells w = absurd (let e = spells.width in omega (arith, e))

spelled_by : (high low : ℕ) → ((code : ℕ) → SpellsHex 2 code (high ∷ low ∷ []) → ⊥) → byte_of high low ≡ None
spelled_by high low none = elim (cases_Bool (nat_lt (digit_value high) 16 && nat_lt (digit_value low) 16)) [
  | inl small ↦
      let both = and_parts (nat_lt (digit_value high) 16) (nat_lt (digit_value low) 16) small in
      absurd (none (digit_value high * 16 + digit_value low) (record {
        width = refl;
        hex = record { digits = (ltb-true _ _ both.0, (ltb-true _ _ both.1, tt)); value = omega arith };
      }))
  | inr large ↦ rw large refl
]

pub code_unspelled : (word : List ℕ) → ((code : ℕ) (digits : List ℕ) → SpellsHex 2 code digits → word ≡ codes "0x" ++ digits → ⊥) → code_in word ≡ None
code_unspelled [] none = refl
code_unspelled (z ∷ []) none = refl
code_unspelled (z ∷ x ∷ []) none = refl
code_unspelled (z ∷ x ∷ h ∷ []) none = refl
code_unspelled (z ∷ x ∷ h ∷ l ∷ []) none = elim (cases_Bool (eqb z 0x30 && eqb x 0x78)) [
  | inl same ↦
      let both = and_parts (eqb z 0x30) (eqb x 0x78) same in
      rw same (spelled_by h l (λ code spells. none code (h ∷ l ∷ []) spells (let e = eqb-true z 0x30 both.0 in let f = eqb-true x 0x78 both.1 in cc)))
  | inr other ↦ rw other refl
]
code_unspelled (z ∷ x ∷ h ∷ l ∷ y ∷ rest) none = refl

-- a text whose bytes are a word's is that word
pub same_word : (text word : List ℕ) → bytes_eq text word ≡ true → text ≡ word
same_word text word e = pointwise_same text word e
