-- Parts with a mark between each two, cut and joined.
use Rattle.std.proofs.Common.{◌≡◌, ℕ, zero, suc, cond, ◌+◌, ◌<◌, ◌≤◌, eqb, false, List, [], ◌∷◌, ◌++◌, length, get_or, take, map, refl, sym, ap, ◌∙◌, arith, append_assoc, length-append}
use Rattle.std.specs.List.{All, AllZip, join_with_byte, slice_split}
use Rattle.std.specs.Char.{digit_value}
use Rattle.std.specs.Str.Parse.{AllDigits}
use Rattle.std.proofs.lemmas.Bool.{cond_both, ne_eqb, eq-eqb}
use Rattle.std.proofs.lemmas.List.Splits.{slice_split_none, slice_split_at, join_with_byte-slice_split}
use Rattle.std.proofs.lemmas.List.{get_or_default, length_push, map_more}
use Rattle.bd_text.specs.Parts.{SpellsJoined}
use Rattle.bd_text.proofs.DigitLemmas.{AllDigits-at}

-- one more part
pub join-push : (mark : ℕ) (parts : List (List ℕ)) (part : List ℕ) → 0 < length parts → join_with_byte mark (parts ++ part ∷ []) ≡ (join_with_byte mark parts ++ mark ∷ []) ++ part
join-push mark [] part some = absurd (omega arith)
join-push mark (x ∷ []) part some = sym (append_assoc x (mark ∷ []) part)
join-push mark (x ∷ y ∷ rest) part some =
    ap (λ (t : List ℕ). x ++ mark ∷ t) (join-push mark (y ∷ rest) part (omega arith)) ∙ simp append_assoc

-- one more value, printed with the mark before it
pub join-more : (mark : ℕ) (print : ℕ → List ℕ) (values : List ℕ) (i : ℕ) → i < length values → join_with_byte mark (map print (take (i + 1) values)) ≡ cond (eqb i 0) (join_with_byte mark (map print (take i values))) (join_with_byte mark (map print (take i values)) ++ mark ∷ []) ++ print (get_or values i 0)
join-more mark print [] i inside = absurd (omega arith)
join-more mark print (v ∷ vs) zero inside = refl
join-more mark print (v ∷ vs) (suc i) inside =
    let some : 0 < length (map print (take (suc i) (v ∷ vs))) = omega arith in
    let later : eqb (suc i) 0 ≡ false = ne_eqb (suc i) 0 (λ same. absurd (omega arith)) in
    rw (map_more print (v ∷ vs) (suc i) 0 inside, later) (join-push mark (map print (take (suc i) (v ∷ vs))) (print (get_or vs i 0)) some)

-- a mark adds one character, and none before the first part
pub length-marked : (mark i : ℕ) (text : List ℕ) → length (cond (eqb i 0) text (text ++ mark ∷ [])) ≤ length text + 1
length-marked mark i text = cond_both (eqb i 0) text (text ++ mark ∷ []) (λ t. length t ≤ length text + 1) (λ e. omega arith) (λ e. omega (arith, length_push text mark))

abbrev pub IsFree : ℕ → List ℕ → Type 0
IsFree mark part = All (λ b. eqb b mark ≡ false) part

-- no mark stands among digits
pub IsFree-digits : (mark base : ℕ) (part : List ℕ) → base ≤ digit_value mark → AllDigits base part → IsFree mark part
IsFree-digits mark base part apart digits = λ k d inside.
    let digit : digit_value (get_or part k 0) < base = AllDigits-at base part k digits inside in
    rw (get_or_default part k d 0 inside) (ne_eqb (get_or part k 0) mark (λ same. let same_value = ap digit_value same in omega arith))

-- parts with no mark in them are those at which the text is cut
pub split-join : {A : Type 0} (Spells : A → List ℕ → Type 0) (mark : ℕ) (values : List A) (parts : List (List ℕ)) → ((v : A) (t : List ℕ) → Spells v t → IsFree mark t) → 0 < length values → AllZip Spells values parts → slice_split (λ b. eqb b mark) (join_with_byte mark parts) ≡ parts
split-join Spells mark [] parts free some each = absurd (omega arith)
split-join Spells mark (v ∷ vs) [] free some each = absurd each
split-join Spells mark (v ∷ []) (t ∷ []) free some each = slice_split_none (λ b. eqb b mark) t (free v t each.0)
split-join Spells mark (v ∷ []) (t ∷ u ∷ ts) free some each = absurd each.1
split-join Spells mark (v ∷ w ∷ vs) (t ∷ []) free some each = absurd each.1
split-join Spells mark (v ∷ w ∷ vs) (t ∷ u ∷ ts) free some each =
    slice_split_at (λ b. eqb b mark) t mark (join_with_byte mark (u ∷ ts)) (free v t each.0) (eq-eqb mark mark refl) ∙ ap (λ (ps : List (List ℕ)). t ∷ ps) (split-join Spells mark (w ∷ vs) (u ∷ ts) free (omega arith) each.1)

-- what is cut at the marks is joined with marks
pub joined-split : {A : Type 0} (Spells : A → List ℕ → Type 0) (mark : ℕ) (values : List A) (text : List ℕ) → AllZip Spells values (slice_split (λ b. eqb b mark) text) → SpellsJoined Spells mark values text
joined-split Spells mark values text each = record { parts = slice_split (λ b. eqb b mark) text; each = each; joined = sym (join_with_byte-slice_split mark text) }

pub split-joined : {A : Type 0} (Spells : A → List ℕ → Type 0) (mark : ℕ) (values : List A) (text : List ℕ) → ((v : A) (t : List ℕ) → Spells v t → IsFree mark t) → 0 < length values → SpellsJoined Spells mark values text → AllZip Spells values (slice_split (λ b. eqb b mark) text)
split-joined Spells mark values text free some spelled =
    rw (spelled.joined, split-join Spells mark values spelled.parts free some spelled.each) spelled.each

-- nothing is spelled by an empty text alone, where each part has a character
pub joined-empty : {A : Type 0} (Spells : A → List ℕ → Type 0) (mark : ℕ) (values : List A) (text : List ℕ) → ((v : A) (t : List ℕ) → Spells v t → 0 < length t) → length text ≡ 0 → SpellsJoined Spells mark values text → values ≡ []
joined-empty Spells mark values text filled empty spelled = go values spelled.parts spelled.each (sym (ap length spelled.joined) ∙ empty)
  where
    go : (vs : List _) (ps : List (List ℕ)) → AllZip Spells vs ps → length (join_with_byte mark ps) ≡ 0 → vs ≡ []
    go [] ps each none = refl
    go (v ∷ vs) [] each none = absurd each
    go (v ∷ vs) (p ∷ []) each none = let some = filled v p each.0 in absurd (omega arith)
    go (v ∷ vs) (p ∷ q ∷ ps) each none = let some = filled v p each.0 in absurd (omega (arith, length-append p (mark ∷ join_with_byte mark (q ∷ ps))))

-- no value spells no text but the empty one
pub joined-some : {A : Type 0} (Spells : A → List ℕ → Type 0) (mark : ℕ) (values : List A) (text : List ℕ) → 0 < length text → SpellsJoined Spells mark values text → 0 < length values
joined-some Spells mark values text some spelled = go values spelled.parts spelled.each (ap length spelled.joined)
  where
    go : (vs : List _) (ps : List (List ℕ)) → AllZip Spells vs ps → length text ≡ length (join_with_byte mark ps) → 0 < length vs
    go [] [] each long = absurd (omega arith)
    go [] (p ∷ ps) each long = absurd each
    go (v ∷ vs) ps each long = omega arith
