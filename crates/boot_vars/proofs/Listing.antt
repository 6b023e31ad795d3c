-- The value of a name in the text of variables.
use Rattle.std.proofs.Common.{◌≡◌, ℕ, List, [], ◌∷◌, ◌++◌, Bool, true, false, cond, ◌&&◌, Option, Some, find, refl, ◌∙◌, ap}
use Rattle.std.specs.List.{after_first, before_first, list_any, slice_split}
use Rattle.std.specs.Str.{bytes_eq}
use Rattle.std.specs.Option.{option_map}
use Rattle.std.proofs.lemmas.Bool.{and_parts}
use Rattle.storage_model.specs.Tests.{is_end}
use Rattle.storage_model.specs.Variables.{AreVariables, Spells, Variable, is_equals, is_line_of, is_variable, lines_of, value_among, value_of}
use Rattle.storage_model.proofs.Lines.{assignment, equals_cut, first_line}

-- the value in the first line of this name
abbrev value_in : List (List ℕ) → List ℕ → Option (List ℕ)
value_in lines name = option_map (after_first is_equals) (find (is_line_of name) lines)

pub named : (v : Variable) (name : List ℕ) → is_variable v ≡ true → is_line_of name (assignment v) ≡ bytes_eq v.name name
named v name is = let parts = equals_cut v is in λ i. parts.any i && bytes_eq (parts.before i) name

one_of : (b : Bool) (v : Variable) (line : List ℕ) (later : Option (List ℕ)) (others : Option Variable) → after_first is_equals line ≡ v.value
    → option_map (after_first is_equals) later ≡ option_map (λ v. v.value) others
    → option_map (after_first is_equals) (cond b (Some line) later) ≡ option_map (λ v. v.value) (cond b (Some v) others)
one_of true v line later others value rest = λ i. Some (value i)
one_of false v line later others value rest = rest

values : (name : List ℕ) (before vs : List Variable) → AreVariables before vs → value_in (slice_split is_end (lines_of vs)) name ≡ value_among vs name
values name before [] are = refl
values name before (v ∷ vs) are =
    let is = are.0.0 in
    ap (λ (lines : List (List ℕ)). value_in lines name) (first_line v (lines_of vs) is)
    ∙ (λ i. option_map (after_first is_equals) (cond (named v name is i) (Some (assignment v)) (find (is_line_of name) (slice_split is_end (lines_of vs)))))
    ∙ one_of (bytes_eq v.name name) v (assignment v) (find (is_line_of name) (slice_split is_end (lines_of vs))) (find (λ v. bytes_eq v.name name) vs) (equals_cut v is).after (values name (before ++ v ∷ []) vs are.1)

pub listed : (text name : List ℕ) (vs : List Variable) → Spells text vs → value_of text name ≡ value_among vs name
unfolding value_of
listed text name vs spells = ap (λ (l : List ℕ). value_in (slice_split is_end l) name) spells.lines ∙ values name [] vs spells.variables

passed : (name first line : List ℕ) (later : Option (List ℕ)) (b : Bool) → is_line_of name first ≡ b → Some line ≡ cond b (Some first) later → (Some line ≡ later → list_any is_equals line ≡ true) → list_any is_equals line ≡ true
passed name first line later true test same next =
    let here : line ≡ first = cc in
    ap (list_any is_equals) here ∙ (and_parts (list_any is_equals first) (bytes_eq (before_first is_equals first) name) test).0
passed name first line later false test same next = next same

-- a line that is found has an `=`
pub has_equals : (name : List ℕ) (lines : List (List ℕ)) (line : List ℕ) → Some line ≡ find (is_line_of name) lines → list_any is_equals line ≡ true
has_equals name [] line is = absurd (cc)
has_equals name (first ∷ lines) line is = passed name first line (find (is_line_of name) lines) (is_line_of name first) refl is (has_equals name lines line)
