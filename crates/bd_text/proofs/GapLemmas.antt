-- Where `::` can stand in what spells groups.
use Rattle.std.proofs.Common.{◌≡◌, ℕ, zero, suc, ◌+◌, ◌<◌, List, [], ◌∷◌, ◌++◌, length, get_or, take, drop, inl, inr, refl, sym, ap, ◌∙◌, arith, add-one, append_assoc, length-append, take-append-drop, drop-cons}
use Rattle.std.specs.List.{AllZip, join_with_byte}
use Rattle.std.proofs.lemmas.Bool.{cases_lt, cases_order, eqb-false}
use Rattle.std.proofs.lemmas.List.{drop_at, get_or_append_left, get_or-append-add, get_or_at, get_or_past, length-replicate, take_at}
use Rattle.bd_text.specs.Gap.{IsFirstGap, IsGap}
use Rattle.bd_text.specs.Group.{SpellsGroup}
use Rattle.bd_text.specs.V6.{SpellsInFull, SpellsWithGap}
use Rattle.bd_text.proofs.Joins.{IsFree, IsFree-digits}

-- each colon is followed by another character
Firm : List ℕ → Type 0
Firm text = (k : ℕ) → get_or text k 0 ≡ 58 → (suc k < length text) × (get_or text (suc k) 0 ≡ 58 → ⊥)

not-free : (text : List ℕ) (k : ℕ) → IsFree 58 text → get_or text k 0 ≡ 58 → ⊥
not-free text k free colon =
    elim (cases_lt k (length text)) [
      | inl inside ↦ eqb-false (get_or text k 0) 58 (free k 0 inside) colon
      | inr past ↦ let none = get_or_past text k 0 past in absurd (omega arith)
    ]

Firm-free : (text : List ℕ) → IsFree 58 text → Firm text
unfolding Firm
Firm-free text free k colon = absurd (not-free text k free colon)

Firm-join : (text rest : List ℕ) → IsFree 58 text → Firm rest → 0 < length rest → (get_or rest 0 0 ≡ 58 → ⊥) → Firm (text ++ 58 ∷ rest)
unfolding Firm
Firm-join [] rest free firm some starts zero colon = (omega arith, starts)
Firm-join [] rest free firm some starts (suc k) colon = let next = firm k colon in (omega (arith, next.0), next.1)
Firm-join (c ∷ text) rest free firm some starts zero colon = absurd (not-free (c ∷ text) 0 free colon)
Firm-join (c ∷ text) rest free firm some starts (suc k) colon =
    let next = Firm-join text rest (λ i d inside. free (suc i) d (omega arith)) firm some starts k colon in
    (omega (arith, next.0), next.1)

free : (group : ℕ) (part : List ℕ) → SpellsGroup group part → IsFree 58 part
free group part spelled = IsFree-digits 58 16 part (omega arith) spelled.hex.digits

-- what spells groups begins with a digit
record Starts (text : List ℕ) : Type 0 where
  some : 0 < length text
  digit : get_or text 0 0 ≡ 58 → ⊥

starts : (group : ℕ) (part : List ℕ) (parts : List (List ℕ)) → SpellsGroup group part → Starts (join_with_byte 58 (part ∷ parts))
starts group [] parts spelled = absurd (let some = spelled.some in omega arith)
starts group (c ∷ part) [] spelled = record { some = omega arith; digit = not-free (c ∷ part) 0 (free group (c ∷ part) spelled) }
starts group (c ∷ part) (q ∷ parts) spelled = record { some = omega arith; digit = not-free (c ∷ part) 0 (free group (c ∷ part) spelled) }

Firm-spelled : (groups : List ℕ) (parts : List (List ℕ)) → AllZip SpellsGroup groups parts → Firm (join_with_byte 58 parts)
unfolding Firm
Firm-spelled [] [] each k colon = absurd (omega arith)
Firm-spelled [] (p ∷ parts) each k colon = absurd each
Firm-spelled (g ∷ groups) [] each k colon = absurd each
Firm-spelled (g ∷ groups) (p ∷ []) each k colon = Firm-free p (free g p each.0) k colon
Firm-spelled (g ∷ []) (p ∷ q ∷ parts) each k colon = absurd each.1
Firm-spelled (g ∷ h ∷ groups) (p ∷ q ∷ parts) each k colon =
    let next = starts h q parts each.1.0 in
    Firm-join p (join_with_byte 58 (q ∷ parts)) (free g p each.0) (Firm-spelled (h ∷ groups) (q ∷ parts) each.1) next.some next.digit k colon

firm : (groups text : List ℕ) → SpellsInFull groups text → Firm text
firm groups text spelled = rw spelled.joined (Firm-spelled groups spelled.parts spelled.each)

-- no `::` stands in groups spelled in full
pub no-gap : (groups text : List ℕ) (place : ℕ) → SpellsInFull groups text → IsGap text place → ⊥
unfolding Firm
no-gap groups text place spelled gap = (firm groups text spelled place gap.mark).1 (rw (← add-one place) gap.second)

-- where a gap is spelled, `::` stands at its head's end
pub gap-at : (groups text : List ℕ) (spelled : SpellsWithGap groups text) → IsGap text (length spelled.sides.head)
gap-at groups text spelled =
    let front = spelled.sides.head in
    record {
      mark = ap (λ (t : List ℕ). get_or t (length spelled.sides.head) 0) spelled.sides.text_is ∙ get_or_at spelled.sides.head 58 (58 ∷ spelled.sides.tail) 0 (length spelled.sides.head) refl;
      second = ap (λ (t : List ℕ). get_or t (length spelled.sides.head + 1) 0) spelled.sides.text_is ∙ get_or-append-add spelled.sides.head (58 ∷ 58 ∷ spelled.sides.tail) 1 0;
    }

-- and the first `::` stands there
pub gap-place : (groups text : List ℕ) (place : ℕ) → IsFirstGap text place → (spelled : SpellsWithGap groups text) → place ≡ length spelled.sides.head
unfolding Firm
gap-place groups text place first spelled =
    elim (cases_order place (length spelled.sides.head)) [
      | inl same ↦ same
      | inr (inl before) ↦
          let within = λ (k : ℕ) (inside : k < length spelled.sides.head). ap (λ (t : List ℕ). get_or t k 0) spelled.sides.text_is ∙ get_or_append_left spelled.sides.head (58 ∷ 58 ∷ spelled.sides.tail) 0 k inside in
          let next = firm spelled.before spelled.sides.head spelled.sides.head_is place (sym (within place before) ∙ first.gap.mark) in
          absurd (next.1 (sym (within (suc place) next.0) ∙ rw (← add-one place) first.gap.second))
      | inr (inr after) ↦ absurd (first.none_before (length spelled.sides.head) after (gap-at groups text spelled))
    ]

pub gap-head : (groups text : List ℕ) (place : ℕ) → IsFirstGap text place → (spelled : SpellsWithGap groups text) → take place text ≡ spelled.sides.head
gap-head groups text place first spelled = ap (take place) spelled.sides.text_is ∙ take_at spelled.sides.head (58 ∷ 58 ∷ spelled.sides.tail) place (sym (gap-place groups text place first spelled))

pub gap-tail : (groups text : List ℕ) (place : ℕ) → IsFirstGap text place → (spelled : SpellsWithGap groups text) → drop (place + 2) text ≡ spelled.sides.tail
gap-tail groups text place first spelled =
    let parted : text ≡ (spelled.sides.head ++ 58 ∷ 58 ∷ []) ++ spelled.sides.tail = spelled.sides.text_is ∙ sym (append_assoc spelled.sides.head (58 ∷ 58 ∷ []) spelled.sides.tail) in
    let same = gap-place groups text place first spelled in
    ap (drop (place + 2)) parted ∙ drop_at (spelled.sides.head ++ 58 ∷ 58 ∷ []) spelled.sides.tail (place + 2) (omega (arith, length-append spelled.sides.head (58 ∷ 58 ∷ [])))

-- a text round its first `::`
pub gap-split : (text : List ℕ) (place : ℕ) → IsFirstGap text place → text ≡ take place text ++ 58 ∷ 58 ∷ drop (place + 2) text
gap-split text place first =
    let inside = first.inside in
    let one : drop place text ≡ get_or text place 0 ∷ drop (suc place) text = drop-cons text place 0 (omega arith) in
    let two : drop (suc place) text ≡ get_or text (suc place) 0 ∷ drop (suc (suc place)) text = drop-cons text (suc place) 0 (omega arith) in
    let next : get_or text (suc place) 0 ≡ 58 = rw (← add-one place) first.gap.second in
    let end : suc (suc place) ≡ place + 2 = omega arith in
    sym (take-append-drop place text) ∙ rw (one, two, first.gap.mark, next, end) refl

-- how many groups stand on each side
pub gap-sizes : (groups text : List ℕ) (spelled : SpellsWithGap groups text) → length groups ≡ length spelled.before + (spelled.zeros + length spelled.after)
gap-sizes groups text spelled = ap length spelled.groups_are ∙ simp (length-append, length-replicate)
