-- The first wrong line of a text.
use Rattle.std.proofs.Common.{◌≡◌, inl, inr, ℕ, ◌+◌, ◌<◌, ◌≤◌, List, [], ◌∷◌, ◌++◌, length, take, drop, Bool, true, ◌&&◌, is_none, Option, option_map, find, Some, None, cond, refl, sym, ◌∙◌, ap, subst, arith, append_assoc, append-nil, length-append, length-take}
use Rattle.std.specs.List.{Contains, after_first, list_any}
use Rattle.std.specs.Str.{bytes_eq}
use Rattle.std.proofs.Math.Seq.{take-add}
use Rattle.std.proofs.lemmas.Bool.{and_parts, both_ways, and_from, cases_Bool, cases_lt, cond-true}
use Rattle.std.proofs.lemmas.Grind.{flat_map-append}
use Rattle.std.proofs.lemmas.List.{take-append-drop, take_all, take_at}
use Rattle.std.proofs.lemmas.List.Elements.{Contains-append_right}
use Rattle.std.proofs.lemmas.Map.Made.{Contains-tail}
use Rattle.std.proofs.lemmas.Option.{cond_some}
use Rattle.std.proofs.lemmas.Slice.Eq.{bytes_eq-Decides}
use Rattle.boot_vars.specs.Lines.{is_next_line, line_in, next_line}
use Rattle.storage_model.specs.Tests.{is_end, variable_in}
use Rattle.storage_model.specs.Variables.{AreVariables, IsBadLine, IsText, MayFollow, Spells, Variable, is_equals, is_variable, line_of, lines_of, names_of, value_among, value_of}
use Rattle.storage_model.proofs.Lines.{assignment, equals_cut}
use Rattle.boot_vars.proofs.LineParts.{length_line, line_cut, line_is, same_line, variable_of}
use Rattle.boot_vars.proofs.Listing.{listed}

-- a name of none of the variables has no value
no_value : (vs : List Variable) (name : List ℕ) → ¬ Contains (names_of vs) name → value_among vs name ≡ None
no_value [] name fresh = refl
no_value (v ∷ vs) name fresh = elim (cases_Bool (bytes_eq v.name name)) [
  | inl same ↦ absurd (fresh (0, omega arith, (bytes_eq-Decides v.name name).0 same))
  | inr other ↦
      ap (λ (b : Bool). option_map (λ v. v.value) (cond b (Some v) (find (λ v. bytes_eq v.name name) vs))) other
      ∙ no_value vs name (λ among. fresh (Contains-append_right (v.name ∷ []) (names_of vs) name among))
]

pub fresh_name : (vs : List Variable) (name : List ℕ) → value_among vs name ≡ None → ¬ Contains (names_of vs) name
fresh_name [] name none = λ among. let lt = among.1 in absurd (omega (arith, lt))
fresh_name (v ∷ vs) name none = elim (cases_Bool (bytes_eq v.name name)) [
  | inl same ↦
      let found : Some v.value ≡ None = sym (ap (λ (b : Bool). option_map (λ v. v.value) (cond b (Some v) (find (λ v. bytes_eq v.name name) vs))) same) ∙ none in
      absurd (cc)
  | inr other ↦ λ among.
      fresh_name vs name (sym (ap (λ (b : Bool). option_map (λ v. v.value) (cond b (Some v) (find (λ v. bytes_eq v.name name) vs))) other) ∙ none)
      (Contains-tail v.name (names_of vs) name (λ same. both_ways (bytes_eq v.name name) other ((bytes_eq-Decides v.name name).1 same)) among)
]

-- one more variable
are_more : (before vs : List Variable) (v : Variable) → AreVariables before vs → MayFollow (before ++ vs) v → AreVariables before (vs ++ v ∷ [])
are_more before [] v are may = (subst (λ (l : List Variable). MayFollow l v) (append-nil before) may, tt)
are_more before (w ∷ vs) v are may = (are.0, are_more (before ++ w ∷ []) vs v are.1 (subst (λ (l : List Variable). MayFollow l v) (sym (append_assoc before (w ∷ []) vs)) may))

-- one more line
spells_more : (text : List ℕ) (vs : List Variable) (v : Variable) → Spells text vs → MayFollow vs v → Spells (text ++ line_of v) (vs ++ v ∷ [])
spells_more text vs v spells may = record {
  lines = ap (λ (l : List ℕ). l ++ line_of v) spells.lines ∙ sym (flat_map-append line_of vs (v ∷ []) ∙ ap (λ (l : List ℕ). lines_of vs ++ l) (append-nil (line_of v)));
  variables = are_more [] vs v spells.variables may;
}

-- a text begins with the line of a variable that has no line before
record BeginsWith (vs : List Variable) (text : List ℕ) : Type 0 where
  variable : Variable
  rest : List ℕ
  is : text ≡ line_of variable ++ rest
  may : MayFollow vs variable

no_option : (o : Option (List ℕ)) → is_none o ≡ true → o ≡ None
no_option None none = refl
no_option (Some l) none = absurd (cc)

begins : (before text : List ℕ) (vs : List Variable) → Spells before vs → is_next_line before text ≡ true → BeginsWith vs text
unfolding is_next_line
begins before text vs spells next =
    let v = variable_in (line_in text) in
    let three = and_parts (list_any is_end text && list_any is_equals (line_in text) && is_variable v) (is_none (value_of before v.name)) next in
    let two = and_parts (list_any is_end text && list_any is_equals (line_in text)) (is_variable v) three.0 in
    let one = and_parts (list_any is_end text) (list_any is_equals (line_in text)) two.0 in
    record {
      variable = v;
      rest = after_first is_end text;
      is = line_is text one.0 one.1;
      may = (two.1, fresh_name vs v.name (sym (listed before v.name vs spells) ∙ no_option (value_of before v.name) three.1));
    }

-- and the other way round
is_next : (before text : List ℕ) (vs : List Variable) → Spells before vs → BeginsWith vs text → is_next_line before text ≡ true
unfolding is_next_line
is_next before text vs spells begins =
    let v = begins.variable in
    let variable : is_variable v ≡ true = begins.may.0 in
    let cut = line_cut v begins.rest variable in
    let line : line_in text ≡ assignment v = ap line_in begins.is ∙ cut.before in
    let same : variable_in (line_in text) ≡ v = ap (λ (l : List ℕ). variable_in (line_in l)) begins.is ∙ variable_of v begins.rest variable in
    let fresh : value_of before v.name ≡ None = listed before v.name vs spells ∙ no_value vs v.name begins.may.1 in
    and_from (list_any is_end text && list_any is_equals (line_in text) && is_variable (variable_in (line_in text))) (is_none (value_of before (variable_in (line_in text)).name))
    (and_from (list_any is_end text && list_any is_equals (line_in text)) (is_variable (variable_in (line_in text)))
    (and_from (list_any is_end text) (list_any is_equals (line_in text)) (ap (list_any is_end) begins.is ∙ cut.any) (ap (list_any is_equals) line ∙ (equals_cut v variable).any))
    (ap is_variable same ∙ variable))
    (ap (λ (w : Variable). is_none (value_of before w.name)) same ∙ ap is_none fresh)

-- the text from its begin on, one line more
pub good_line : (text : List ℕ) (at n : ℕ) → IsText (take at text) → next_line (take at text) (drop at text) ≡ Some n → IsText (take (at + n) text)
unfolding next_line
good_line text at n good next =
    let parts = cond_some (is_next_line (take at text) (drop at text)) (length (line_in (drop at text)) + 1) n next in
    let front = begins (take at text) (drop at text) good.0 good.1 parts.0 in
    let v = front.variable in
    let line : line_in (drop at text) ≡ assignment v = ap line_in front.is ∙ (line_cut v front.rest front.may.0).before in
    let long : length (line_of v) ≡ n = length_line v ∙ ap (λ (l : List ℕ). length l + 1) (sym line) ∙ parts.1 in
    let longer : take (at + n) text ≡ take at text ++ line_of v =
    take-add at n text ∙ ap (λ (l : List ℕ). take at text ++ take n l) front.is ∙ ap (λ (l : List ℕ). take at text ++ l) (take_at (line_of v) front.rest n long) in
    subst IsText (sym longer) (good.0 ++ v ∷ [], spells_more (take at text) good.0 v good.1 front.may)

pub bad_line : (text : List ℕ) (at : ℕ) → IsText (take at text) → at < length text → next_line (take at text) (drop at text) ≡ None → IsBadLine text at
unfolding next_line
bad_line text at good within next = record {
  before = good.0;
  good = good.1;
  within = within;
  bad = λ v rest is may.
      let front : BeginsWith good.0 (drop at text) = record { variable = v; rest = rest; is = is; may = may } in
      let yes_next = is_next (take at text) (drop at text) good.0 good.1 front in
      let found : Some (length (line_in (drop at text)) + 1) ≡ None = sym (cond-true (is_next_line (take at text) (drop at text)) (Some (length (line_in (drop at text)) + 1)) None yes_next) ∙ next in
      absurd (cc);
}

-- of two runs of lines at the same place the longer one goes on with a line
further : (before vs ws : List Variable) (x y : List ℕ) → AreVariables before vs → AreVariables before ws → lines_of vs ++ x ≡ lines_of ws ++ y → length (lines_of vs) < length (lines_of ws) → BeginsWith (before ++ vs) x
further before [] [] x y one two same lt = absurd (omega arith)
further before [] (w ∷ ws) x y one two same lt = record {
  variable = w;
  rest = lines_of ws ++ y;
  is = same ∙ append_assoc (line_of w) (lines_of ws) y;
  may = subst (λ (l : List Variable). MayFollow l w) (sym (append-nil before)) two.0;
}
further before (v ∷ vs) [] x y one two same lt = absurd (omega arith)
further before (v ∷ vs) (w ∷ ws) x y one two same lt =
    let here : line_of v ++ (lines_of vs ++ x) ≡ line_of w ++ (lines_of ws ++ y) = sym (append_assoc (line_of v) (lines_of vs) x) ∙ same ∙ append_assoc (line_of w) (lines_of ws) y in
    let line = same_line v w (lines_of vs ++ x) (lines_of ws ++ y) one.0.0 two.0.0 here in
    let as_long : length (line_of v) ≡ length (line_of w) = ap (λ (u : Variable). length (line_of u)) line.variable in
    let shorter : length (lines_of vs) < length (lines_of ws) = omega (arith, lt, as_long, length-append (line_of v) (lines_of vs), length-append (line_of w) (lines_of ws)) in
    let rest = further (before ++ v ∷ []) vs ws x y one.1 (subst (λ (u : Variable). AreVariables (before ++ u ∷ []) ws) (sym line.variable) two.1) line.rest shorter in
    subst (λ (l : List Variable). BeginsWith l x) (append_assoc before (v ∷ []) vs) rest

-- how many bytes lines have
at_most : (text : List ℕ) (n : ℕ) {vs : List Variable} → Spells (take n text) vs → n ≤ length text → length (lines_of vs) ≡ n
at_most text n spells within = ap length (sym spells.lines) ∙ omega (arith, length-take n text)

-- no lines reach past a wrong one
not_past : (text : List ℕ) (at n : ℕ) → IsBadLine text at → IsText (take n text) → n ≤ length text → n ≤ at
not_past text at n wrong good within = elim (cases_lt at n) [
  | inr le ↦ le
  | inl lt ↦
      let before = at_most text at wrong.good (omega (arith, wrong.within)) in
      let after = at_most text n good.1 within in
      let same : lines_of wrong.before ++ drop at text ≡ lines_of good.0 ++ drop n text =
      ap (λ (l : List ℕ). l ++ drop at text) (sym wrong.good.lines) ∙ take-append-drop at text ∙ sym (take-append-drop n text) ∙ ap (λ (l : List ℕ). l ++ drop n text) good.1.lines in
      let front = further [] wrong.before good.0 (drop at text) (drop n text) wrong.good.variables good.1.variables same (omega (arith, before, after)) in
      absurd (wrong.bad front.variable front.rest front.is front.may)
]

pub one_bad_line : (text : List ℕ) (a b : ℕ) → IsBadLine text a → IsBadLine text b → a ≡ b
one_bad_line text a b one two =
    let first = not_past text a b one (two.before, two.good) (omega (arith, two.within)) in
    let second = not_past text b a two (one.before, one.good) (omega (arith, one.within)) in
    omega arith

pub no_bad_line : (text : List ℕ) (at : ℕ) → IsText text → IsBadLine text at → ⊥
no_bad_line text at good wrong =
    let past = not_past text at (length text) wrong (subst IsText (sym (take_all (length text) text (omega arith))) good) (omega arith) in
    omega (arith, past, wrong.within)
