-- The line of a name, searched line by line.
use Rattle.std.proofs.Common.{◌≡◌, inl, inr, ℕ, ◌+◌, ◌<◌, ◌≤◌, List, [], ◌∷◌, ◌++◌, length, drop, Bool, true, false, option_map, find, Some, None, cond, refl, sym, ◌∙◌, ap, subst, arith, append_assoc, append-nil, length-append}
use Rattle.std.specs.List.{before_first, list_any}
use Rattle.std.specs.Str.{bytes_eq}
use Rattle.std.proofs.lemmas.Bool.{cases_Bool}
use Rattle.std.proofs.lemmas.Grind.{flat_map-append}
use Rattle.std.proofs.lemmas.List.{drop_at}
use Rattle.std.proofs.lemmas.Slice.Eq.{bytes_eq-Decides}
use Rattle.storage_model.specs.Tests.{is_end}
use Rattle.boot_vars.specs.Places.{IsPlace}
use Rattle.storage_model.specs.Variables.{AreVariables, IsText, MayFollow, Spells, Variable, is_line_of, is_variable, line_of, lines_of, value_among}
use Rattle.storage_model.proofs.Lines.{assignment}
use Rattle.boot_vars.proofs.LineParts.{length_line, line_cut}
use Rattle.boot_vars.proofs.Listing.{named}

-- A text from its begin to here is the lines of variables of other names.
pub record IsPassed (text name : List ℕ) (at : ℕ) : Type 0 where
  pub before : List Variable
  pub after : List Variable
  pub spells : Spells text (before ++ after)
  pub other : value_among before name ≡ None
  pub at_is : at ≡ length (lines_of before)

-- The line of this variable stands here, behind those of other names.
pub record IsNext (text name : List ℕ) (at : ℕ) : Type 0 where
  pub before : List Variable
  pub variable : Variable
  pub after : List Variable
  pub spells : Spells text (before ++ variable ∷ after)
  pub other : value_among before name ≡ None
  pub at_is : at ≡ length (lines_of before)
  pub is : is_variable variable ≡ true
  pub any : list_any is_end (drop at text) ≡ true
  pub line : before_first is_end (drop at text) ≡ assignment variable

pub at_begin : (text name : List ℕ) → IsText text → IsPassed text name 0
at_begin text name is = record { before = []; after = is.0; spells = is.1; other = refl; at_is = refl }

-- what stands behind the first of some lines
pub rest_of : (text : List ℕ) (before after : List Variable) (at : ℕ) → text ≡ lines_of (before ++ after) → at ≡ length (lines_of before) → drop at text ≡ lines_of after
rest_of text before after at lines is = ap (drop at) (lines ∙ flat_map-append line_of before after) ∙ drop_at (lines_of before) (lines_of after) at (sym is)

pub length_of : (text : List ℕ) (before after : List Variable) → text ≡ lines_of (before ++ after) → length text ≡ length (lines_of before) + length (lines_of after)
length_of text before after lines = ap length (lines ∙ flat_map-append line_of before after) ∙ length-append (lines_of before) (lines_of after)

-- of more variables, those in front and those behind
pub record AreParted (acc before : List Variable) (v : Variable) (after : List Variable) : Type 0 where
  pub may : MayFollow (acc ++ before) v
  pub front : AreVariables acc before
  pub back : AreVariables ((acc ++ before) ++ v ∷ []) after

pub parted : (acc before : List Variable) (v : Variable) (after : List Variable) → AreVariables acc (before ++ v ∷ after) → AreParted acc before v after
parted acc [] v after are = record {
  may = subst (λ (l : List Variable). MayFollow l v) (sym (append-nil acc)) are.0;
  front = tt;
  back = subst (λ (l : List Variable). AreVariables (l ++ v ∷ []) after) (sym (append-nil acc)) are.1;
}
parted acc (u ∷ us) v after are =
    let rest = parted (acc ++ u ∷ []) us v after are.1 in
    let same = append_assoc acc (u ∷ []) us in
    record {
      may = subst (λ (l : List Variable). MayFollow l v) same rest.may;
      front = (are.0, rest.front);
      back = subst (λ (l : List Variable). AreVariables (l ++ v ∷ []) after) same rest.back;
    }

next_of : (text name : List ℕ) (at : ℕ) (before after : List Variable) → Spells text (before ++ after) → value_among before name ≡ None → at ≡ length (lines_of before) → at < length text → IsNext text name at
next_of text name at before [] spells other is lt =
    let long = length_of text before [] spells.lines in
    absurd (omega (arith, long, is, lt))
next_of text name at before (v ∷ ws) spells other is lt =
    let variable : is_variable v ≡ true = (parted [] before v ws spells.variables).may.0 in
    let rest = rest_of text before (v ∷ ws) at spells.lines is in
    let cut = line_cut v (lines_of ws) variable in
    record {
      before = before;
      variable = v;
      after = ws;
      spells = spells;
      other = other;
      at_is = is;
      is = variable;
      any = ap (list_any is_end) rest ∙ cut.any;
      line = ap (before_first is_end) rest ∙ cut.before;
    }

pub next : (text name : List ℕ) (at : ℕ) → IsPassed text name at → at < length text → IsNext text name at
next text name at passed lt = next_of text name at passed.before passed.after passed.spells passed.other passed.at_is lt

-- the line is the one of the name
pub found : (text name : List ℕ) (at size : ℕ) (n : IsNext text name at) → is_line_of name (assignment n.variable) ≡ true → size ≡ length (assignment n.variable) + 1 → IsPlace text name at size
found text name at size n is long = record {
  before = n.before;
  these = n.variable ∷ [];
  after = n.after;
  spells = n.spells;
  other = n.other;
  named = inl (n.variable, (bytes_eq-Decides n.variable.name name).0 (sym (named n.variable name n.is) ∙ is), refl);
  at_is = n.at_is;
  size_is = long ∙ sym (length_line n.variable) ∙ ap length (sym (append-nil (line_of n.variable)));
}

none_more : (before : List Variable) (v : Variable) (name : List ℕ) → value_among before name ≡ None → bytes_eq v.name name ≡ false → value_among (before ++ v ∷ []) name ≡ None
none_more [] v name none other = ap (λ (b : Bool). option_map (λ v. v.value) (cond b (Some v) None)) other
none_more (u ∷ us) v name none other = elim (cases_Bool (bytes_eq u.name name)) [
  | inl same ↦
      let is : Some u.value ≡ None = sym (ap (λ (b : Bool). option_map (λ v. v.value) (cond b (Some u) (find (λ v. bytes_eq v.name name) us))) same) ∙ none in
      absurd (cc)
  | inr else_ ↦
      ap (λ (b : Bool). option_map (λ v. v.value) (cond b (Some u) (find (λ v. bytes_eq v.name name) (us ++ v ∷ [])))) else_
      ∙ none_more us v name (sym (ap (λ (b : Bool). option_map (λ v. v.value) (cond b (Some u) (find (λ v. bytes_eq v.name name) us))) else_) ∙ none) other
]

-- the line is of another name
pub passes : (text name : List ℕ) (at size : ℕ) (n : IsNext text name at) → is_line_of name (assignment n.variable) ≡ false → size ≡ length (assignment n.variable) + 1 → IsPassed text name (at + size)
passes text name at size n is long =
    let v = n.variable in
    let lines : lines_of (n.before ++ v ∷ []) ≡ lines_of n.before ++ (line_of v ++ []) = flat_map-append line_of n.before (v ∷ []) in
    let sizes : length (lines_of (n.before ++ v ∷ [])) ≡ length (lines_of n.before) + length (line_of v) =
    ap length lines ∙ length-append (lines_of n.before) (line_of v ++ []) ∙ ap (λ (l : List ℕ). length (lines_of n.before) + length l) (append-nil (line_of v)) in
    let here = n.at_is in
    let line = length_line v in
    record {
      before = n.before ++ v ∷ [];
      after = n.after;
      spells = subst (λ (vs : List Variable). Spells text vs) (sym (append_assoc n.before (v ∷ []) n.after)) n.spells;
      other = none_more n.before v name n.other (sym (named v name n.is) ∙ is);
      at_is = omega (arith, sizes, here, line, long);
    }

ended_by : (text name : List ℕ) (at : ℕ) (before after : List Variable) → Spells text (before ++ after) → value_among before name ≡ None → at ≡ length (lines_of before) → length text ≤ at → IsPlace text name at 0
ended_by text name at before [] spells other is le = record {
  before = before;
  these = [];
  after = [];
  spells = spells;
  other = other;
  named = inr (refl, refl);
  at_is = is;
  size_is = refl;
}
ended_by text name at before (v ∷ ws) spells other is le =
    let long = length_of text before (v ∷ ws) spells.lines in
    let more : length (lines_of (v ∷ ws)) ≡ length (line_of v) + length (lines_of ws) = length-append (line_of v) (lines_of ws) in
    let line = length_line v in
    absurd (omega (arith, long, is, le, more, line))

-- no line is left
pub ended : (text name : List ℕ) (at : ℕ) → IsPassed text name at → length text ≤ at → IsPlace text name at 0
ended text name at passed le = ended_by text name at passed.before passed.after passed.spells passed.other passed.at_is le

-- a place is within its text
pub within : (text name : List ℕ) (at size : ℕ) → IsPlace text name at size → at + size ≤ length text
within text name at size place =
    let long = length_of text place.before (place.these ++ place.after) place.spells.lines in
    let parts : length (lines_of (place.these ++ place.after)) ≡ length (lines_of place.these) + length (lines_of place.after) =
    ap length (flat_map-append line_of place.these place.after) ∙ length-append (lines_of place.these) (lines_of place.after) in
    let at_is = place.at_is in
    let size_is = place.size_is in
    omega (arith, long, parts, at_is, size_is)

-- what was passed is within its text
pub passed_within : (text name : List ℕ) (at : ℕ) → IsPassed text name at → at ≤ length text
passed_within text name at passed =
    let long = length_of text passed.before passed.after passed.spells.lines in
    let at_is = passed.at_is in
    omega (arith, long, at_is)
