-- The parts of a variable's line.
use Rattle.std.proofs.Common.{◌≡◌, ℕ, ◌+◌, ◌≤◌, List, [], ◌∷◌, ◌++◌, length, true, codes, refl, sym, ◌∙◌, ap, subst, arith, append_assoc, length-append}
use Rattle.std.specs.List.{after_first, list_any}
use Rattle.boot_vars.specs.Lines.{line_in}
use Rattle.storage_model.specs.Tests.{is_end, variable_in}
use Rattle.storage_model.specs.Variables.{Variable, is_equals, is_variable, line_of}
use Rattle.storage_model.proofs.Lines.{IsCut, assignment, cut, equals_cut, line_then, no_end}
use Rattle.boot_vars.proofs.Firsts.{joined}

pub line_cut : (v : Variable) (rest : List ℕ) → is_variable v ≡ true → IsCut is_end (line_of v ++ rest) (assignment v) rest
line_cut v rest is = subst (λ (l : List ℕ). IsCut is_end l (assignment v) rest) (sym (line_then v rest)) (cut is_end (assignment v) 0 rest (no_end v is) refl)

-- a line tells its variable, and what follows it
pub variable_of : (v : Variable) (rest : List ℕ) → is_variable v ≡ true → variable_in (line_in (line_of v ++ rest)) ≡ v
variable_of v rest is =
    let parts = equals_cut v is in
    ap variable_in (line_cut v rest is).before ∙ (λ i. record { name = parts.before i; value = parts.after i })

-- two lines of variables in front of the same text
pub record SameLine (v w : Variable) (x y : List ℕ) : Type 0 where
  pub variable : v ≡ w
  pub rest : x ≡ y

pub same_line : (v w : Variable) (x y : List ℕ) → is_variable v ≡ true → is_variable w ≡ true → line_of v ++ x ≡ line_of w ++ y → SameLine v w x y
same_line v w x y one two same = record {
  variable = sym (variable_of v x one) ∙ ap (λ (l : List ℕ). variable_in (line_in l)) same ∙ variable_of w y two;
  rest = sym (line_cut v x one).after ∙ ap (after_first is_end) same ∙ (line_cut w y two).after;
}

-- a text with an end, whose line has an `=`, begins with the line that it tells
pub line_is : (text : List ℕ) → list_any is_end text ≡ true → list_any is_equals (line_in text) ≡ true → text ≡ line_of (variable_in (line_in text)) ++ after_first is_end text
line_is text ends equals =
    let v = variable_in (line_in text) in
    let line : line_in text ≡ assignment v = joined 0x3D (line_in text) equals ∙ sym (append_assoc (v.name) (codes "=") (v.value)) in
    joined 0 text ends ∙ ap (λ (l : List ℕ). l ++ 0 ∷ after_first is_end text) line ∙ sym (line_then v (after_first is_end text))

pub length_line : (v : Variable) → length (line_of v) ≡ length (assignment v) + 1
length_line v = length-append (assignment v) (0 ∷ [])

pub line_within : (text : List ℕ) → list_any is_end text ≡ true → length (line_in text) + 1 ≤ length text
line_within text ends =
    let long : length text ≡ length (line_in text) + length (0 ∷ after_first is_end text) = ap length (joined 0 text ends) ∙ length-append (line_in text) (0 ∷ after_first is_end text) in
    omega arith
