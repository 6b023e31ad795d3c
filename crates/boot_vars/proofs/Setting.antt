-- The text of changed variables.
use Rattle.std.proofs.Common.{◌≡◌, inl, inr, ⊎_elim, ℕ, ◌+◌, ◌<◌, List, [], ◌∷◌, ◌++◌, length, length-take, length-drop, take, drop, Bool, true, false, not, option_map, find, is_none, Some, None, cond, refl, sym, ◌∙◌, ap, subst, arith, append_assoc, append-nil, length-append}
use Rattle.std.specs.List.{Contains}
use Rattle.std.specs.Str.{bytes_eq}
use Rattle.std.proofs.lemmas.Bool.{cases_Bool, false_from_ne_true}
use Rattle.std.proofs.lemmas.Grind.{flat_map-append}
use Rattle.std.proofs.lemmas.List.{map-append, take_at}
use Rattle.std.proofs.lemmas.List.Elements.{Contains-append_cases, Contains-append_left, Contains-append_right, filter-append}
use Rattle.std.proofs.lemmas.Slice.Eq.{bytes_eq-Decides}
use Rattle.boot_vars.specs.Places.{AreNamed, IsPlace}
use Rattle.std.specs.Prelude.{IsTrue}
use Rattle.boot_vars.specs.Setting.{put_refusal, unset_refusal, with_variable, without}
use Rattle.boot_vars.specs.declared.fault.VarFault.TheVariants.{BadName}
use Rattle.storage_model.specs.Variables.{AreVariables, IsText, Spells, Variable, is_name, is_variable, line_of, lines_of, names_of, value_among}
use Rattle.boot_vars.proofs.BadLines.{fresh_name}
use Rattle.storage_model.proofs.Lines.{assignment}
use Rattle.boot_vars.proofs.LineParts.{length_line, same_line}
use Rattle.boot_vars.proofs.Places.{rest_of, within as within_text}

-- lines tell their variables
same_lines : (before vs ws : List Variable) → AreVariables before vs → AreVariables before ws → lines_of vs ≡ lines_of ws → vs ≡ ws
same_lines before [] [] one two same = refl
same_lines before [] (w ∷ ws) one two same =
    let long : 0 ≡ length (line_of w) + length (lines_of ws) = ap length same ∙ length-append (line_of w) (lines_of ws) in
    let line = length_line w in
    absurd (omega (arith, long, line))
same_lines before (v ∷ vs) [] one two same =
    let long : length (line_of v) + length (lines_of vs) ≡ 0 = sym (length-append (line_of v) (lines_of vs)) ∙ ap length same in
    let line = length_line v in
    absurd (omega (arith, long, line))
same_lines before (v ∷ vs) (w ∷ ws) one two same =
    let line = same_line v w (lines_of vs) (lines_of ws) one.0.0 two.0.0 same in
    let later : AreVariables (before ++ v ∷ []) ws = subst (λ (u : Variable). AreVariables (before ++ u ∷ []) ws) (sym line.variable) two.1 in
    (λ i. line.variable i ∷ same_lines (before ++ v ∷ []) vs ws one.1 later line.rest i)

-- a text has one list of variables
pub one_list : (text : List ℕ) (vs ws : List Variable) → Spells text vs → Spells text ws → vs ≡ ws
one_list text vs ws one two = same_lines [] vs ws one.variables two.variables (sym one.lines ∙ two.lines)

-- variables that may follow some may follow others of no other name
fewer : (xs ys vs : List Variable) → ((name : List ℕ) → Contains (names_of ys) name → Contains (names_of xs) name) → AreVariables xs vs → AreVariables ys vs
fewer xs ys [] among are = tt
fewer xs ys (v ∷ vs) among are =
    let more : (name : List ℕ) → Contains (names_of (ys ++ v ∷ [])) name → Contains (names_of (xs ++ v ∷ [])) name =
    λ name there.
    subst (λ (l : List (List ℕ)). Contains l name) (sym (map-append (λ v. v.name) xs (v ∷ [])))
    (⊎_elim (λ here. Contains-append_left (names_of xs) (v.name ∷ []) name (among name here)) (λ last. Contains-append_right (names_of xs) (v.name ∷ []) name last)
    (Contains-append_cases (names_of ys) (v.name ∷ []) name (subst (λ (l : List (List ℕ)). Contains l name) (map-append (λ v. v.name) ys (v ∷ [])) there)))
    in
    ((are.0.0, λ there. are.0.1 (among v.name there)), fewer (xs ++ v ∷ []) (ys ++ v ∷ []) vs more are.1)

same_names : (xs ys vs : List Variable) → names_of xs ≡ names_of ys → AreVariables xs vs → AreVariables ys vs
same_names xs ys vs same are = fewer xs ys vs (λ name there. subst (λ (l : List (List ℕ)). Contains l name) (sym same) there) are

-- variables, and others behind them
joined : (acc before after : List Variable) → AreVariables acc before → AreVariables (acc ++ before) after → AreVariables acc (before ++ after)
joined acc [] after front back = subst (λ (l : List Variable). AreVariables l after) (append-nil acc) back
joined acc (u ∷ us) after front back = (front.0, joined (acc ++ u ∷ []) us after front.1 (subst (λ (l : List Variable). AreVariables l after) (sym (append_assoc acc (u ∷ []) us)) back))

parts_of : (acc before after : List Variable) → AreVariables acc (before ++ after) → AreVariables acc before × AreVariables (acc ++ before) after
parts_of acc [] after are = (tt, subst (λ (l : List Variable). AreVariables l after) (sym (append-nil acc)) are)
parts_of acc (u ∷ us) after are =
    let rest = parts_of (acc ++ u ∷ []) us after are.1 in
    ((are.0, rest.0), subst (λ (l : List Variable). AreVariables l after) (append_assoc acc (u ∷ []) us) rest.1)

not_first : (u : Variable) (us : List Variable) (name : List ℕ) → value_among (u ∷ us) name ≡ None → bytes_eq u.name name ≡ false
not_first u us name none = elim (cases_Bool (bytes_eq u.name name)) [
  | inl same ↦
      let is : Some u.value ≡ None = sym (ap (λ (b : Bool). option_map (λ v. v.value) (cond b (Some u) (find (λ v. bytes_eq v.name name) us))) same) ∙ none in
      absurd (cc)
  | inr other ↦ other
]

not_later : (u : Variable) (us : List Variable) (name : List ℕ) → value_among (u ∷ us) name ≡ None → value_among us name ≡ None
not_later u us name none = sym (ap (λ (b : Bool). option_map (λ v. v.value) (cond b (Some u) (find (λ v. bytes_eq v.name name) us))) (not_first u us name none)) ∙ none

-- the place of a name among variables
with_front : (before rest : List Variable) (v : Variable) → value_among before v.name ≡ None → with_variable (before ++ rest) v ≡ before ++ with_variable rest v
unfolding with_variable
with_front [] rest v none = refl
with_front (u ∷ us) rest v none =
    ap (λ (b : Bool). cond b (v ∷ (us ++ rest)) (u ∷ with_variable (us ++ rest) v)) (not_first u us v.name none)
    ∙ ap (λ (l : List Variable). u ∷ l) (with_front us rest v (not_later u us v.name none))

with_here : (these after : List Variable) (v : Variable) → AreNamed v.name these after → with_variable (these ++ after) v ≡ v ∷ after
unfolding with_variable
with_here these after v (inl one) =
    let named : bytes_eq one.0.name v.name ≡ true = (bytes_eq-Decides one.0.name v.name).1 one.1 in
    ap (λ (l : List Variable). with_variable (l ++ after) v) one.2 ∙ ap (λ (b : Bool). cond b (v ∷ after) (one.0 ∷ with_variable after v)) named
with_here these after v (inr none) = (λ i. with_variable (none.0 i ++ none.1 i) v) ∙ (λ i. v ∷ sym none.1 i)

with_is : (text : List ℕ) (at size : ℕ) (v : Variable) (place : IsPlace text v.name at size) → with_variable (place.before ++ (place.these ++ place.after)) v ≡ place.before ++ v ∷ place.after
with_is text at size v place = with_front place.before (place.these ++ place.after) v place.other ∙ ap (λ (l : List Variable). place.before ++ l) (with_here place.these place.after v place.named)

-- what stands before a place and behind it
before_is : (text name : List ℕ) (at size : ℕ) (place : IsPlace text name at size) → take at text ≡ lines_of place.before
before_is text name at size place =
    ap (take at) (place.spells.lines ∙ flat_map-append line_of place.before (place.these ++ place.after))
    ∙ take_at (lines_of place.before) (lines_of (place.these ++ place.after)) at (sym place.at_is)

behind_is : (text name : List ℕ) (at size : ℕ) (place : IsPlace text name at size) → drop (at + size) text ≡ lines_of place.after
behind_is text name at size place =
    let lines : text ≡ lines_of ((place.before ++ place.these) ++ place.after) = place.spells.lines ∙ ap lines_of (sym (append_assoc place.before place.these place.after)) in
    let long : length (lines_of (place.before ++ place.these)) ≡ length (lines_of place.before) + length (lines_of place.these) = ap length (flat_map-append line_of place.before place.these) ∙ length-append (lines_of place.before) (lines_of place.these) in
    let at_is = place.at_is in
    let size_is = place.size_is in
    rest_of text (place.before ++ place.these) place.after (at + size) lines (omega (arith, long, at_is, size_is))

-- the text with the line of a variable in its place is that of the variables with this one
pub with_text : (text : List ℕ) (at size : ℕ) (v : Variable) (vs : List Variable) → IsPlace text v.name at size → Spells text vs
    → take at text ++ (line_of v ++ drop (at + size) text) ≡ lines_of (with_variable vs v)
with_text text at size v vs place spells =
    (λ i. before_is text v.name at size place i ++ (line_of v ++ behind_is text v.name at size place i))
    ∙ sym (flat_map-append line_of place.before (v ∷ place.after))
    ∙ ap lines_of (sym (with_is text at size v place))
    ∙ ap (λ (l : List Variable). lines_of (with_variable l v)) (one_list text (place.before ++ (place.these ++ place.after)) vs place.spells spells)

-- a variable in the place of one of its name, or behind all others
may_here : (acc these after : List Variable) (v : Variable) → value_among acc v.name ≡ None → is_variable v ≡ true → AreNamed v.name these after → AreVariables acc (these ++ after) → AreVariables acc (v ∷ after)
may_here acc these after v none is (inl one) are =
    let here : AreVariables acc (one.0 ∷ after) = subst (λ (l : List Variable). AreVariables acc (l ++ after)) one.2 are in
    let same : names_of (acc ++ one.0 ∷ []) ≡ names_of (acc ++ v ∷ []) =
    map-append (λ v. v.name) acc (one.0 ∷ []) ∙ ap (λ (n : List ℕ). names_of acc ++ n ∷ []) one.1 ∙ sym (map-append (λ v. v.name) acc (v ∷ [])) in
    ((is, fresh_name acc v.name none), same_names (acc ++ one.0 ∷ []) (acc ++ v ∷ []) after same here.1)
may_here acc these after v none is (inr empty) are = ((is, fresh_name acc v.name none), subst (λ (l : List Variable). AreVariables (acc ++ v ∷ []) l) (sym empty.1) tt)

pub with_spells : (text : List ℕ) (at size : ℕ) (v : Variable) (vs : List Variable) → IsPlace text v.name at size → Spells text vs → is_variable v ≡ true
    → Spells (lines_of (with_variable vs v)) (with_variable vs v)
with_spells text at size v vs place spells is = record {
  lines = refl;
  variables =
      let parts = parts_of [] place.before (place.these ++ place.after) place.spells.variables in
      let back = may_here place.before place.these place.after v place.other is place.named parts.1 in
      subst (λ (l : List Variable). AreVariables [] l)
      (sym (with_is text at size v place) ∙ ap (λ (l : List Variable). with_variable l v) (one_list text (place.before ++ (place.these ++ place.after)) vs place.spells spells))
      (joined [] place.before (v ∷ place.after) parts.0 back);
}

-- without a name
kept_all : (vs : List Variable) (name : List ℕ) → value_among vs name ≡ None → without vs name ≡ vs
kept_all [] name none = refl
kept_all (u ∷ us) name none =
    ap (λ (b : Bool). cond (not b) (u ∷ without us name) (without us name)) (not_first u us name none)
    ∙ ap (λ (l : List Variable). u ∷ l) (kept_all us name (not_later u us name none))

-- none of those behind is of the name of one before
others_behind : (acc after : List Variable) (name : List ℕ) → Contains (names_of acc) name → AreVariables acc after → value_among after name ≡ None
others_behind acc [] name there are = refl
others_behind acc (v ∷ vs) name there are =
    let other : bytes_eq v.name name ≡ false = false_from_ne_true (bytes_eq v.name name) (λ same. are.0.1 (subst (λ (n : List ℕ). Contains (names_of acc) n) (sym ((bytes_eq-Decides v.name name).0 same)) there)) in
    ap (λ (b : Bool). option_map (λ v. v.value) (cond b (Some v) (find (λ v. bytes_eq v.name name) vs))) other
    ∙ others_behind (acc ++ v ∷ []) vs name (subst (λ (l : List (List ℕ)). Contains l name) (sym (map-append (λ v. v.name) acc (v ∷ []))) (Contains-append_left (names_of acc) (v.name ∷ []) name there)) are.1

-- its own name is the last of these
last_name : (acc : List Variable) (u : Variable) (name : List ℕ) → u.name ≡ name → Contains (names_of (acc ++ u ∷ [])) name
last_name acc u name is =
    subst (λ (l : List (List ℕ)). Contains l name) (sym (map-append (λ v. v.name) acc (u ∷ [])))
    (Contains-append_right (names_of acc) (u.name ∷ []) name (0, omega arith, is))

without_here : (acc these after : List Variable) (name : List ℕ) → AreNamed name these after → AreVariables acc (these ++ after) → without (these ++ after) name ≡ after
without_here acc these after name (inl one) are =
    let here : AreVariables acc (one.0 ∷ after) = subst (λ (l : List Variable). AreVariables acc (l ++ after)) one.2 are in
    let named : bytes_eq one.0.name name ≡ true = (bytes_eq-Decides one.0.name name).1 one.1 in
    ap (λ (l : List Variable). without (l ++ after) name) one.2
    ∙ ap (λ (b : Bool). cond (not b) (one.0 ∷ without after name) (without after name)) named
    ∙ kept_all after name (others_behind (acc ++ one.0 ∷ []) after name (last_name acc one.0 name one.1) here.1)
without_here acc these after name (inr none) are = (λ i. without (none.0 i ++ none.1 i) name) ∙ sym none.1

without_is : (text name : List ℕ) (at size : ℕ) (place : IsPlace text name at size) → without (place.before ++ (place.these ++ place.after)) name ≡ place.before ++ place.after
without_is text name at size place =
    let parts = parts_of [] place.before (place.these ++ place.after) place.spells.variables in
    filter-append (λ v. not (bytes_eq v.name name)) place.before (place.these ++ place.after)
    ∙ (λ i. kept_all place.before name place.other i ++ without_here place.before place.these place.after name place.named parts.1 i)

pub without_text : (text name : List ℕ) (at size : ℕ) (vs : List Variable) → IsPlace text name at size → Spells text vs
    → take at text ++ drop (at + size) text ≡ lines_of (without vs name)
without_text text name at size vs place spells =
    (λ i. before_is text name at size place i ++ behind_is text name at size place i)
    ∙ sym (flat_map-append line_of place.before place.after)
    ∙ ap lines_of (sym (without_is text name at size place))
    ∙ ap (λ (l : List Variable). lines_of (without l name)) (one_list text (place.before ++ (place.these ++ place.after)) vs place.spells spells)

-- those behind a place may follow those before it
behind : (acc these after : List Variable) (name : List ℕ) → AreNamed name these after → AreVariables acc (these ++ after) → AreVariables acc after
behind acc these after name (inl one) are =
    let here : AreVariables acc (one.0 ∷ after) = subst (λ (l : List Variable). AreVariables acc (l ++ after)) one.2 are in
    fewer (acc ++ one.0 ∷ []) acc after
    (λ n there. subst (λ (l : List (List ℕ)). Contains l n) (sym (map-append (λ v. v.name) acc (one.0 ∷ []))) (Contains-append_left (names_of acc) (one.0.name ∷ []) n there)) here.1
behind acc these after name (inr none) are = subst (λ (l : List Variable). AreVariables acc l) (sym none.1) tt

pub without_spells : (text name : List ℕ) (at size : ℕ) (vs : List Variable) → IsPlace text name at size → Spells text vs → Spells (lines_of (without vs name)) (without vs name)
without_spells text name at size vs place spells = record {
  lines = refl;
  variables =
      let parts = parts_of [] place.before (place.these ++ place.after) place.spells.variables in
      subst (λ (l : List Variable). AreVariables [] l)
      (sym (without_is text name at size place) ∙ ap (λ (l : List Variable). without l name) (one_list text (place.before ++ (place.these ++ place.after)) vs place.spells spells))
      (joined [] place.before place.after parts.0 (behind place.before place.these place.after name place.named parts.1));
}

-- a place has bytes exactly where there is a variable of the name
found_here : (before these after : List Variable) (name : List ℕ) → value_among before name ≡ None → AreNamed name these after → is_none (value_among (before ++ (these ++ after)) name) ≡ is_none (value_among these name)
found_here [] these after name none (inl one) =
    let named : bytes_eq one.0.name name ≡ true = (bytes_eq-Decides one.0.name name).1 one.1 in
    ap (λ (l : List Variable). is_none (value_among (l ++ after) name)) one.2
    ∙ ap (λ (b : Bool). is_none (option_map (λ v. v.value) (cond b (Some one.0) (find (λ v. bytes_eq v.name name) after)))) named
    ∙ sym (ap (λ (b : Bool). is_none (option_map (λ v. v.value) (cond b (Some one.0) None))) named)
    ∙ sym (ap (λ (l : List Variable). is_none (value_among l name)) one.2)
found_here [] these after name none (inr empty) =
    (λ i. is_none (value_among (empty.0 i ++ empty.1 i) name)) ∙ sym (ap (λ (l : List Variable). is_none (value_among l name)) empty.0)
found_here (u ∷ us) these after name none named =
    ap (λ (b : Bool). is_none (option_map (λ v. v.value) (cond b (Some u) (find (λ v. bytes_eq v.name name) (us ++ (these ++ after)))))) (not_first u us name none)
    ∙ found_here us these after name (not_later u us name none) named

pub has_variable : (text name : List ℕ) (at size : ℕ) (vs : List Variable) (place : IsPlace text name at size) → Spells text vs → is_none (value_among vs name) ≡ is_none (value_among place.these name)
has_variable text name at size vs place spells =
    ap (λ (l : List Variable). is_none (value_among l name)) (one_list text vs (place.before ++ (place.these ++ place.after)) spells place.spells)
    ∙ found_here place.before place.these place.after name place.other place.named

size_zero : (these after : List Variable) (name : List ℕ) → AreNamed name these after → length (lines_of these) ≡ 0 → is_none (value_among these name) ≡ true
size_zero these after name (inl one) zero =
    let long : length (lines_of (one.0 ∷ [])) ≡ length (line_of one.0) + 0 = length-append (line_of one.0) [] in
    let line = length_line one.0 in
    let same : length (lines_of these) ≡ length (lines_of (one.0 ∷ [])) = ap (λ (l : List Variable). length (lines_of l)) one.2 in
    absurd (omega (arith, zero, long, line, same))
size_zero these after name (inr empty) zero = ap (λ (l : List Variable). is_none (value_among l name)) empty.0

size_some : (these after : List Variable) (name : List ℕ) → AreNamed name these after → 0 < length (lines_of these) → is_none (value_among these name) ≡ false
size_some these after name (inl one) some =
    let named : bytes_eq one.0.name name ≡ true = (bytes_eq-Decides one.0.name name).1 one.1 in
    ap (λ (l : List Variable). is_none (value_among l name)) one.2 ∙ ap (λ (b : Bool). is_none (option_map (λ v. v.value) (cond b (Some one.0) None))) named
size_some these after name (inr empty) some =
    let same : length (lines_of these) ≡ 0 = ap (λ (l : List Variable). length (lines_of l)) empty.0 in
    absurd (omega (arith, same, some))

-- no variable has the name
pub absent : (text name : List ℕ) (at size : ℕ) (vs : List Variable) → IsPlace text name at size → Spells text vs → size ≡ 0 → is_none (value_among vs name) ≡ true
absent text name at size vs place spells zero =
    has_variable text name at size vs place spells ∙ size_zero place.these place.after name place.named (sym place.size_is ∙ zero)

-- a variable has the name
pub present : (text name : List ℕ) (at size : ℕ) (vs : List Variable) → IsPlace text name at size → Spells text vs → 0 < size → is_none (value_among vs name) ≡ false
present text name at size vs place spells some =
    has_variable text name at size vs place spells ∙ size_some place.these place.after name place.named (let is = place.size_is in omega (arith, is, some))

-- how many bytes the text with a variable has
pub with_length : (text : List ℕ) (at size : ℕ) (v : Variable) (vs : List Variable) → IsPlace text v.name at size → Spells text vs
    → length (lines_of (with_variable vs v)) + size ≡ length text + length v.name + length v.value + 2
with_length text at size v vs place spells =
    let within = within_text text v.name at size place in
    let is = ap length (sym (with_text text at size v vs place spells)) in
    let parts : length (take at text ++ (line_of v ++ drop (at + size) text)) ≡ length (take at text) + length (line_of v ++ drop (at + size) text) = length-append (take at text) (line_of v ++ drop (at + size) text) in
    let more : length (line_of v ++ drop (at + size) text) ≡ length (line_of v) + length (drop (at + size) text) = length-append (line_of v) (drop (at + size) text) in
    let line = length_line v in
    let named : length (assignment v) ≡ length (v.name ++ 0x3D ∷ []) + length v.value = length-append (v.name ++ 0x3D ∷ []) v.value in
    let name : length (v.name ++ 0x3D ∷ []) ≡ length v.name + 1 = length-append v.name (0x3D ∷ []) in
    let front = length-take at text in
    let back = length-drop (at + size) text in
    omega (arith, within, is, parts, more, line, named, name, front, back)

-- what is written in place of a line, by the text in either of two hands
pub with_result : (text first second : List ℕ) (v : Variable) (at size : ℕ) (written : List ℕ) (vs : List Variable) → first ≡ text → second ≡ text → IsPlace first v.name at size → Spells text vs
    → written ≡ take at second ++ (line_of v ++ drop (at + size) second) → written ≡ lines_of (with_variable vs v)
with_result text first second v at size written vs one two place spells is =
    is ∙ ap (λ (t : List ℕ). take at t ++ (line_of v ++ drop (at + size) t)) two
    ∙ with_text text at size v vs (subst (λ (t : List ℕ). IsPlace t v.name at size) one place) spells

pub without_result : (text first second name : List ℕ) (at size : ℕ) (written : List ℕ) (vs : List Variable) → first ≡ text → second ≡ text → IsPlace first name at size → Spells text vs
    → written ≡ take at second ++ drop (at + size) second → written ≡ lines_of (without vs name)
without_result text first second name at size written vs one two place spells is =
    is ∙ ap (λ (t : List ℕ). take at t ++ drop (at + size) t) two
    ∙ without_text text name at size vs (subst (λ (t : List ℕ). IsPlace t name at size) one place) spells

-- these texts are those of variables
pub with_is_text : (text : List ℕ) (at size : ℕ) (v : Variable) (written : List ℕ) (vs : List Variable) → IsPlace text v.name at size → Spells text vs → is_variable v ≡ true → written ≡ lines_of (with_variable vs v) → IsText written
with_is_text text at size v written vs place spells is same = (with_variable vs v, record { lines = same; variables = (with_spells text at size v vs place spells is).variables })

pub without_is_text : (text name : List ℕ) (at size : ℕ) (written : List ℕ) (vs : List Variable) → IsPlace text name at size → Spells text vs → written ≡ lines_of (without vs name) → IsText written
without_is_text text name at size written vs place spells same = (without vs name, record { lines = same; variables = (without_spells text name at size vs place spells).variables })

-- an absent variable is taken out, where its name is one
pub absent_refusal : (vs : List Variable) (number : ℕ) (name : List ℕ) → value_among vs name ≡ None → IsTrue (is_name name) → unset_refusal vs number name ≡ None
absent_refusal vs number name none named = λ i. cond (not (named i)) (Some BadName) (cond (is_none (none i)) None (put_refusal number))
