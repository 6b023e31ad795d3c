-- The parts of a variable's line, and the variables that the lines of a text tell.
use Rattle.std.proofs.Common.{◌≡◌, ℕ, suc, ◌+◌, ◌<◌, List, [], ◌∷◌, ◌++◌, length, get_or, take, drop, Bool, true, false, ◌&&◌, nat_le, ◌==◌, codes, refl, sym, ◌∙◌, ap, subst, arith, append_assoc, length-append}
use Rattle.std.specs.Bool.{Decides}
use Rattle.std.specs.Prelude.{Contains}
use Rattle.std.specs.List.{All, after_first, before_first, list_all, list_any, position_or_len, slice_split}
use Rattle.std.specs.Str.{bytes_eq}
use Rattle.std.proofs.lemmas.Bool.{and_parts, both_ways, eqb-true, false_from_ne_true}
use Rattle.std.proofs.lemmas.Bool.Decides.{Decides-and, Decides-like, Decides-not}
use Rattle.std.proofs.lemmas.List.{drop_at, get_or_append_left, get_or_at, take_at}
use Rattle.std.proofs.lemmas.List.Elements.{All-append, All-cons, All-nil}
use Rattle.std.proofs.lemmas.List.Folds.{list_any_at}
use Rattle.std.proofs.lemmas.List.Splits.{length-slice_split, slice_split_at}
use Rattle.std.proofs.lemmas.List.Sums.{position_or_len_is}
use Rattle.std.proofs.lemmas.Map.Views.{Contains-from_any}
use Rattle.std.proofs.lemmas.Slice.Eq.{bytes_eq-Decides}
use Rattle.storage_model.specs.Tests.{are_variables, is_end, is_text, variable_in, variables_among, variables_in}
use Rattle.storage_model.specs.Variables.{AreVariables, IsText, Variable, is_equals, is_name, is_name_byte, is_value, is_variable, line_of, lines_of, names_of}

-- a list is these, then an element that passes, then those
pub record IsCut (p : ℕ → Bool) (whole xs ys : List ℕ) : Type 0 where
  pub any : list_any p whole ≡ true
  pub before : before_first p whole ≡ xs
  pub after : after_first p whole ≡ ys

pub cut : (p : ℕ → Bool) (xs : List ℕ) (y : ℕ) (ys : List ℕ) → All (λ x. p x ≡ false) xs → p y ≡ true → IsCut p (xs ++ y ∷ ys) xs ys
cut p xs y ys none passes =
    let long : length (xs ++ y ∷ ys) ≡ length xs + suc (length ys) = length-append xs (y ∷ ys) in
    let there : p (get_or (xs ++ y ∷ ys) (length xs) 0) ≡ true = ap p (get_or_at xs y ys 0 (length xs) refl) ∙ passes in
    let place : position_or_len p (xs ++ y ∷ ys) ≡ length xs =
    position_or_len_is p (xs ++ y ∷ ys) (length xs) 0 (omega arith) (λ k lt. ap p (get_or_append_left xs (y ∷ ys) 0 k lt) ∙ none k 0 lt) (λ lt. there) in
    let pushed : length (xs ++ y ∷ []) ≡ length xs + 1 = length-append xs (y ∷ []) in
    record {
      any = list_any_at p (xs ++ y ∷ ys) (length xs) 0 (omega arith) there;
      before = ap (λ (n : ℕ). take n (xs ++ y ∷ ys)) place ∙ take_at xs (y ∷ ys) (length xs) refl;
      after = ap (λ (n : ℕ). drop (n + 1) (xs ++ y ∷ ys)) place ∙ ap (λ (l : List ℕ). drop (length xs + 1) l) (sym (append_assoc (xs) (y ∷ []) (ys))) ∙ drop_at (xs ++ y ∷ []) ys (length xs + 1) pushed;
    }

-- c is none of the elements, which pass a test that c fails
pub apart : (p : ℕ → Bool) (c : ℕ) (xs : List ℕ) → p c ≡ false → list_all p xs ≡ true → All (λ x. (x == c) ≡ false) xs
apart p c [] fails all = All-nil (λ x. (x == c) ≡ false)
apart p c (x ∷ xs) fails all =
    let parts = and_parts (p x) (list_all p xs) all in
    let head : (x == c) ≡ false = false_from_ne_true (x == c) (λ same. both_ways (p c) fails (ap p (sym (eqb-true x c same)) ∙ parts.0)) in
    All-cons (λ x. (x == c) ≡ false) x xs head (apart p c xs fails parts.1)

-- a variable's line without its end
abbrev pub assignment : Variable → List ℕ
assignment v = v.name ++ codes "=" ++ v.value

name_bytes : (name : List ℕ) → is_name name ≡ true → list_all is_name_byte name ≡ true
unfolding is_name
name_bytes name is = (and_parts (nat_le 1 (length name) && nat_le (length name) 64) (list_all is_name_byte name) is).1

value_bytes : (value : List ℕ) → is_value value ≡ true → list_all (λ b. nat_le 0x20 b && nat_le b 0x7E) value ≡ true
unfolding is_value
value_bytes value is = is

name_apart : (c : ℕ) (name : List ℕ) → is_name_byte c ≡ false → is_name name ≡ true → All (λ b. (b == c) ≡ false) name
name_apart c name fails is = apart is_name_byte c name fails (name_bytes name is)

pub equals_cut : (v : Variable) → is_variable v ≡ true → IsCut is_equals (assignment v) v.name v.value
equals_cut v is =
    let parts = and_parts (is_name v.name) (is_value v.value) is in
    subst (λ (l : List ℕ). IsCut is_equals l v.name v.value) (sym (append_assoc (v.name) (codes "=") (v.value)))
    (cut is_equals v.name 0x3D v.value (name_apart 0x3D v.name refl parts.0) refl)

pub no_end : (v : Variable) → is_variable v ≡ true → All (λ b. is_end b ≡ false) (assignment v)
no_end v is =
    let parts = and_parts (is_name v.name) (is_value v.value) is in
    let value = apart (λ b. nat_le 0x20 b && nat_le b 0x7E) 0 v.value refl (value_bytes v.value parts.1) in
    All-append (λ b. is_end b ≡ false) (v.name ++ codes "=") v.value
    (All-append (λ b. is_end b ≡ false) v.name (codes "=") (name_apart 0 v.name refl parts.0) (All-cons (λ b. is_end b ≡ false) 0x3D [] refl (All-nil (λ b. is_end b ≡ false))))
    value

pub line_then : (v : Variable) (rest : List ℕ) → line_of v ++ rest ≡ assignment v ++ 0 ∷ rest
line_then v rest = append_assoc (assignment v) (0 ∷ []) (rest)

pub first_line : (v : Variable) (rest : List ℕ) → is_variable v ≡ true → slice_split is_end (line_of v ++ rest) ≡ assignment v ∷ slice_split is_end rest
first_line v rest is = ap (slice_split is_end) (line_then v rest) ∙ slice_split_at is_end (assignment v) 0 rest (no_end v is) refl

-- ---- the variables of a text

one_more : (line : List ℕ) (lines : List (List ℕ)) → 0 < length lines → variables_among (line ∷ lines) ≡ variable_in line ∷ variables_among lines
one_more line [] some = absurd (omega arith)
one_more line (next ∷ lines) some = refl

told : (v : Variable) → is_variable v ≡ true → variable_in (assignment v) ≡ v
told v is = let parts = equals_cut v is in λ i. record { name = parts.before i; value = parts.after i }

-- the lines of variables tell them
pub listed : (before vs : List Variable) → AreVariables before vs → variables_in (lines_of vs) ≡ vs
listed before [] are = refl
listed before (v ∷ vs) are =
    let is = are.0.0 in
    ap variables_among (first_line v (lines_of vs) is)
    ∙ one_more (assignment v) (slice_split is_end (lines_of vs)) (let long = length-slice_split is_end (lines_of vs) in omega (arith, long))
    ∙ (λ i. told v is i ∷ listed (before ++ v ∷ []) vs are.1 i)

same_bytes : (xs ys : List ℕ) → bytes_eq xs ys ≡ true → xs ≡ ys
same_bytes xs ys test = (bytes_eq-Decides xs ys).0 test

among_decides : (names : List (List ℕ)) (name : List ℕ) → Decides (list_any (bytes_eq name) names) (Contains names name)
among_decides names name = (Contains-from_any same_bytes name names, any names name)
  where
    any : (names : List (List ℕ)) (name : List ℕ) → Contains names name → list_any (bytes_eq name) names ≡ true
    any names name has = list_any_at (bytes_eq name) names has.0 name has.1 ((bytes_eq-Decides name (get_or names has.0 name)).1 (sym has.2))

variables_decides : (before vs : List Variable) → Decides (are_variables before vs) (AreVariables before vs)
variables_decides before [] = (λ test. tt, λ are. refl)
variables_decides before (v ∷ vs) =
    Decides-and _ _ (Decides-and _ _ (λ test. test, λ is. is) (Decides-not _ (among_decides (names_of before) v.name))) (variables_decides (before ++ v ∷ []) vs)

pub text_decides : (text : List ℕ) → Decides (is_text text) (IsText text)
text_decides text =
    Decides-like (is_text text)
    (λ both. (variables_in text, record { lines = both.0; variables = both.1 }))
    (λ is.
    let same : variables_in text ≡ is.0 = ap variables_in is.1.lines ∙ listed [] is.0 is.1.variables in
    (is.1.lines ∙ ap lines_of (sym same), subst (AreVariables []) (sym same) is.1.variables))
    (Decides-and _ _ (bytes_eq-Decides text (lines_of (variables_in text))) (variables_decides [] (variables_in text)))
