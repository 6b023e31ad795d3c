-- What the answer of a whole text is.
use Rattle.std.proofs.Common.{◌≡◌, ◌≤◌, ◌↔◌, ℕ, true, false, refl, List, [], ◌∷◌, ◌==◌, length, Option, Some, None, Result, Ok, Err, sym, subst, ap, ◌∙◌, arith, ℤ, IsErr, IsSome}
use Rattle.sh_arith.specs.declared.reader.Found.{Found}
use Rattle.sh_arith.specs.declared.reader.Bad.{Bad}
use Rattle.sh_arith.specs.Text.{Text, skip}
use Rattle.sh_arith.specs.Names.{Variables}
use Rattle.sh_arith.specs.Tree.{Expression, height, value}
use Rattle.sh_arith.specs.Grammar.{Conditional, Spells, IsValue}
use Rattle.sh_arith.specs.Reading.{Stands, StandsNot, IsAllowed}
use Rattle.std.proofs.lemmas.Bool.{eqb-true}
use Rattle.sh_arith.proofs.Once.{conditional_same}

ok_same : (x y : ℤ) (r : Result ℤ Bad) → r ≡ Ok x → r ≡ Ok y → x ≡ y
ok_same x y r e f = cc

err_ok : (bad : Bad) (y : ℤ) (r : Result ℤ Bad) → r ≡ Err bad → r ≡ Ok y → ⊥
err_ok bad y r e f = cc

some_is : {A : Type 0} {x y : A} → Some x ≡ Some y → x ≡ y
some_is e = cc

is_some_of : {A : Type 0} {x : A} (o : Option A) → o ≡ Some x → IsSome o
is_some_of {A} o e = subst (λ (p : Option A). IsSome p) (sym e) refl

is_err_of : (bad : Bad) (r : Result ℤ Bad) → r ≡ Err bad → IsErr r
is_err_of bad r e = subst (λ (q : Result ℤ Bad). IsErr q) (sym e) refl

not_err : (x : ℤ) (r : Result ℤ Bad) → r ≡ Ok x → IsErr r → ⊥
not_err x r e h = let k : false ≡ true = subst (λ (q : Result ℤ Bad). IsErr q) e h in cc

pub nothing_left : (xs : List ℕ) → (length xs == 0) ≡ true → xs ≡ []
nothing_left [] h = refl
nothing_left (x ∷ xs) h = let e = eqb-true (length (x ∷ xs)) 0 h in absurd (omega (arith, e))

pub something_left : (xs : List ℕ) → (length xs == 0) ≡ false → xs ≡ [] → ⊥
something_left [] h e = let k : true ≡ false = h in cc
something_left (x ∷ xs) h e = cc

module _ (vars : Variables) (text : Text) where
  module _ (found : Found) (s : Stands Conditional vars 64 true text found) where
    pub same_rest : (v : ℤ) → IsValue vars text v → skip found.rest.now ≡ []
    same_rest v i = ap skip (conditional_same s.reads i.spells.reads).1 ∙ i.spells.blank

    value_of : (v : ℤ) → IsValue vars text v → found.value ≡ v
    value_of v i = some_is (sym (s.comes refl) ∙ ap (value vars) (conditional_same s.reads i.spells.reads).0 ∙ i.comes)

    module _ (blank : skip found.rest.now ≡ []) (r : Result ℤ Bad) (is : r ≡ Ok found.value) where
      is_value : IsValue vars text found.value
      is_value = record { tree = s.tree; spells = record { rest = found.rest.now; reads = s.reads; blank = blank }; low = omega (arith, s.high, s.low); comes = s.comes refl }

      pub value_answers : (v : ℤ) → (r ≡ Ok v) ↔ IsValue vars text v
      value_answers v = (λ e. subst (IsValue vars text) (ok_same found.value v r is e) is_value, λ i. is ∙ ap (λ x. Ok x) (value_of v i))

      pub value_bad : IsErr r ↔ ((v : ℤ) → IsValue vars text v → ⊥)
      value_bad = (λ e. absurd (not_err found.value r is e), λ n. absurd (n found.value is_value))

  module _ (bad : Bad) (r : Result ℤ Bad) (is : r ≡ Err bad) (none : (v : ℤ) → IsValue vars text v → ⊥) where
    pub no_value : (v : ℤ) → (r ≡ Ok v) ↔ IsValue vars text v
    no_value v = (λ e. absurd (err_ok bad v r is e), λ i. absurd (none v i))

    pub no_value_bad : IsErr r ↔ ((v : ℤ) → IsValue vars text v → ⊥)
    no_value_bad = (λ _. none, λ _. is_err_of bad r is)

  pub not_read : StandsNot Conditional vars 64 true text → (v : ℤ) → IsValue vars text v → ⊥
  not_read s v i = s.none i.tree i.spells.rest i.spells.reads (record { low = i.low; comes = λ _. is_some_of (value vars i.tree) i.comes })
