-- Names and entries, as they are printed.
use Rattle.std.proofs.Common.{◌≡◌, ◌≢◌, ℕ, suc, ◌+◌, ◌<◌, ◌≤◌, ◌==◌, List, [], ◌∷◌, ◌++◌, length, take, drop, get_or, map, Bool, true, false, if◌then◌else◌, Option, refl, sym, ◌∙◌, ap, subst, arith, append_assoc, append-nil, take-append-drop, drop-cons, add-one, eq-eqb, eqb-true}
use Rattle.std.specs.List.{position_or_len}
use Rattle.std.specs.Str.{bytes_eq}
use Rattle.std.proofs.lemmas.Grind.{take_at_read}
use Rattle.std.proofs.lemmas.List.{length-take-le}
use Rattle.std.proofs.lemmas.List.Sums.{position_or_len_is}
use Rattle.std.proofs.lemmas.Slice.Eq.{bytes_eq-Decides}
use Rattle.bd_dev.specs.Sink.{Appends, AppendsFront}
use Rattle.bd_dev.proofs.Appending.{Appends-then, AppendsFront-then, AppendsFront-longer}
use Rattle.bd_text.specs.declared.guid.Guid.{Guid}
use Rattle.gpt_copy.specs.declared.table.Entry.{Entry}
use Rattle.storage_model.specs.Entries.{unused_type}
use Rattle.status_text.specs.StatusText.{entry_line, entry_lines, shown_name, shown_unit, used_line}

decided_no : {P : Type 0} (b : Bool) → (b ≡ true → P) → (P → ⊥) → b ≡ false
decided_no true holds not = absurd (not (holds refl))
decided_no false holds not = refl

-- `==` tells zero from other units
zero_passes : (unit : ℕ) → unit ≡ 0 → (unit == 0) ≡ true
zero_passes unit is = eq-eqb unit 0 is

others_fail : (unit : ℕ) → unit ≢ 0 → (unit == 0) ≡ false
others_fail unit not = decided_no (unit == 0) (eqb-true unit 0) not

-- a name is shown up to the first zero unit
pub name_is : (text name : List ℕ) (n : ℕ) → take n text ≡ map shown_unit (take n name) → n ≤ length name → ((k : ℕ) → k < n → get_or name k 0 ≢ 0) → (n < length name → get_or name n 0 ≡ 0) → take n text ≡ shown_name name
name_is text name n shown within before here =
    let first : position_or_len (λ unit. unit == 0) name ≡ n = position_or_len_is (λ unit. unit == 0) name n 0 within (λ k lt. others_fail (get_or name k 0) (before k lt)) (λ lt. zero_passes (get_or name n 0) (here lt)) in
    shown ∙ ap (λ (k : ℕ). map shown_unit (take k name)) (sym first)

-- the line of an entry that is used, and of one that is not
abbrev line_by : Bool → ℕ → Entry → List ℕ
line_by unused number e = if unused then [] else entry_line number e

pub line_of_used : (number : ℕ) (e : Entry) → e.kind ≢ unused_type → used_line number e ≡ entry_line number e
unfolding used_line
line_of_used number e used =
    let test = (bytes_eq-Decides e.kind.bytes unused_type.bytes).0 in
    let no : bytes_eq e.kind.bytes unused_type.bytes ≡ false = decided_no (bytes_eq e.kind.bytes unused_type.bytes) test (λ same. used (ap (λ (bs : List ℕ). record { bytes = bs }) same)) in
    ap (λ (b : Bool). line_by b number e) no

unused_by : (number : ℕ) (e : Entry) (b : Bool) → bytes_eq e.kind.bytes unused_type.bytes ≡ b → (e.kind ≢ unused_type → ⊥) → used_line number e ≡ []
unfolding used_line
unused_by number e true is unused = ap (λ (t : Bool). line_by t number e) is
unused_by number e false is unused = absurd (unused (λ same.
    let holds = (bytes_eq-Decides e.kind.bytes unused_type.bytes).1 (ap (λ (g : Guid). g.bytes) same) in
    cc))

pub line_of_unused : (number : ℕ) (e : Entry) → (e.kind ≢ unused_type → ⊥) → used_line number e ≡ []
line_of_unused number e unused = unused_by number e (bytes_eq e.kind.bytes unused_type.bytes) refl unused

-- the lines of some entries and of those behind them
lines_append : (number : ℕ) (es fs : List Entry) → entry_lines number (es ++ fs) ≡ entry_lines number es ++ entry_lines (number + length es) fs
lines_append number [] fs = let same : number ≡ number + 0 = omega arith in ap (λ (n : ℕ). entry_lines n fs) same
lines_append number (e ∷ es) fs =
    let further : number + 1 + length es ≡ number + suc (length es) = omega arith in
    ap (λ (ls : List ℕ). used_line number e ++ ls) (lines_append (number + 1) es fs)
    ∙ sym (append_assoc (used_line number e) (entry_lines (number + 1) es) (entry_lines (number + 1 + length es) fs))
    ∙ ap (λ (n : ℕ). (used_line number e ++ entry_lines (number + 1) es) ++ entry_lines n fs) further

-- the lines behind the first i entries
lines_behind : (number : ℕ) (entries fs : List Entry) (i : ℕ) → i ≤ length entries → entry_lines number (take i entries ++ fs) ≡ entry_lines number (take i entries) ++ entry_lines (i + number) fs
lines_behind number entries fs i le =
    let size = length-take-le i entries le in
    let further : number + length (take i entries) ≡ i + number = omega (arith, size) in
    lines_append number (take i entries) fs ∙ ap (λ (n : ℕ). entry_lines number (take i entries) ++ entry_lines n fs) further

-- a line more
pub one_more_entry : (number : ℕ) (old mid new : Option (List ℕ)) (entries : List Entry) (i : ℕ) (e : Entry) → i < length entries → e ≡ get_or entries i e
    → Appends old mid (entry_lines number (take i entries)) → Appends mid new (used_line (i + number) e) → Appends old new (entry_lines number (take (i + 1) entries))
one_more_entry number old mid new entries i e lt is h k =
    let more : take (i + 1) entries ≡ take i entries ++ e ∷ [] = (take_at_read entries i e lt).1 ∙ ap (λ (d : Entry). take i entries ++ d ∷ []) (sym is) in
    let le : i ≤ length entries = omega arith in
    let lines : entry_lines number (take (i + 1) entries) ≡ entry_lines number (take i entries) ++ used_line (i + number) e =
    ap (entry_lines number) more ∙ lines_behind number entries (e ∷ []) i le ∙ ap (λ (ls : List ℕ). entry_lines number (take i entries) ++ ls) (append-nil (used_line (i + number) e)) in
    subst (Appends old new) (sym lines) (Appends-then old mid new (entry_lines number (take i entries)) (used_line (i + number) e) h k)

-- a front of a line more is a front of all lines
pub front_of_an_entry : (number : ℕ) (old mid new : Option (List ℕ)) (entries : List Entry) (i : ℕ) (e : Entry) → i < length entries → e ≡ get_or entries i e
    → Appends old mid (entry_lines number (take i entries)) → AppendsFront mid new (used_line (i + number) e) → AppendsFront old new (entry_lines number entries)
front_of_an_entry number old mid new entries i e lt is h k =
    let rest = drop (i + 1) entries in
    let behind : drop i entries ≡ e ∷ rest = rw add-one (drop-cons entries i e lt) ∙ ap (λ (d : Entry). d ∷ rest) (sym is) in
    let whole : entries ≡ take i entries ++ e ∷ rest = sym (take-append-drop i entries) ∙ ap (λ (ds : List Entry). take i entries ++ ds) behind in
    let le : i ≤ length entries = omega arith in
    let lines : entry_lines number entries ≡ entry_lines number (take i entries) ++ (used_line (i + number) e ++ entry_lines (i + number + 1) rest) = ap (entry_lines number) whole ∙ lines_behind number entries (e ∷ rest) i le in
    subst (AppendsFront old new) (sym lines)
    (AppendsFront-then old mid new (entry_lines number (take i entries)) (used_line (i + number) e ++ entry_lines (i + number + 1) rest) h (AppendsFront-longer mid new (used_line (i + number) e) (entry_lines (i + number + 1) rest) k))
