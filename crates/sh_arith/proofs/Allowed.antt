-- What may stand in an expression that may stand.
use Rattle.std.proofs.Common.{◌≡◌, ◌≤◌, ℕ, suc, max, Bool, true, false, not, ◌&&◌, if◌then◌else◌, refl, Option, Some, None, sym, subst, ap, ◌∙◌, arith, ℤ, IsTrue, IsSome}
use Rattle.std.specs.Option.{option_and_then, option_map}
use Rattle.sh_arith.specs.declared.operator.Operator.{Operator}
use Rattle.sh_arith.specs.declared.operator.Operator.TheVariants.{Or, And, BitOr, BitXor, BitAnd, Equal, NotEqual, Below, AtMost, Above, AtLeast, ShiftLeft, ShiftRight, Add, Subtract, Multiply, Divide, Remainder}
use Rattle.sh_arith.specs.declared.operator.Sign.{Sign}
use Rattle.sh_arith.specs.Names.{Variables}
use Rattle.sh_arith.specs.Number.{is_zero, needs_right, binary, unary, strict}
use Rattle.sh_arith.specs.Tree.{Expression, Constant, Name, Parens, Unary, Binary, Choice, height, value}
use Rattle.sh_arith.specs.Reading.{IsAllowed}

and_then_some : {A B : Type 0} (f : A → Option B) (o : Option A) → IsSome (option_and_then f o) → IsSome o
and_then_some f None h = h
and_then_some f (Some x) h = refl

and_then_at : {A B : Type 0} (f : A → Option B) (o : Option A) (x : A) → o ≡ Some x → IsSome (option_and_then f o) → IsSome (f x)
and_then_at f o x e h = subst (λ p. IsSome (option_and_then f p)) e h

and_left : (a b : Bool) → (a && b) ≡ true → a ≡ true
and_left true b h = refl
and_left false b h = h

and_right : (a b : Bool) → (a && b) ≡ true → b ≡ true
and_right true b h = h
and_right false b h = let k : false ≡ true = h in cc

zero_needs : {A : Type 0} (b : Bool) (o : Option A) (f : A → ℤ) (z : Option ℤ) → b ≡ true → IsSome (if b then option_map f o else z) → IsSome o
zero_needs true None f z e h = h
zero_needs true (Some x) f z e h = refl
zero_needs false o f z e h = let k : false ≡ true = e in cc

other_needs : {A : Type 0} (b : Bool) (o : Option A) (f : A → ℤ) (z : Option ℤ) → not b ≡ true → IsSome (if b then z else option_map f o) → IsSome o
other_needs true o f z e h = let k : false ≡ true = e in cc
other_needs false None f z e h = h
other_needs false (Some x) f z e h = refl

-- a right operand that is needed has a value where the whole has
pub binary_needs : (o : Operator) (x : ℤ) (right : Option ℤ) → needs_right o x ≡ true → IsSome (binary o x right) → IsSome right
binary_needs Or x right n h = zero_needs (is_zero x) right _ _ n h
binary_needs And x right n h = other_needs (is_zero x) right _ _ n h
binary_needs BitOr x right n h = and_then_some (strict BitOr x) right h
binary_needs BitXor x right n h = and_then_some (strict BitXor x) right h
binary_needs BitAnd x right n h = and_then_some (strict BitAnd x) right h
binary_needs Equal x right n h = and_then_some (strict Equal x) right h
binary_needs NotEqual x right n h = and_then_some (strict NotEqual x) right h
binary_needs Below x right n h = and_then_some (strict Below x) right h
binary_needs AtMost x right n h = and_then_some (strict AtMost x) right h
binary_needs Above x right n h = and_then_some (strict Above x) right h
binary_needs AtLeast x right n h = and_then_some (strict AtLeast x) right h
binary_needs ShiftLeft x right n h = and_then_some (strict ShiftLeft x) right h
binary_needs ShiftRight x right n h = and_then_some (strict ShiftRight x) right h
binary_needs Add x right n h = and_then_some (strict Add x) right h
binary_needs Subtract x right n h = and_then_some (strict Subtract x) right h
binary_needs Multiply x right n h = and_then_some (strict Multiply x) right h
binary_needs Divide x right n h = and_then_some (strict Divide x) right h
binary_needs Remainder x right n h = and_then_some (strict Remainder x) right h

choose : (b : Bool) (x y : Option ℤ) → IsSome (if b then x else y) → (b ≡ true → IsSome x) × (not b ≡ true → IsSome y)
choose true x y h = (λ _. h, λ e. let k : false ≡ true = e in cc)
choose false x y h = (λ e. let k : false ≡ true = e in cc, λ _. h)

pub allowed_test : (vars : Variables) (depth : ℕ) (needed : Bool) (c a b : Expression) → IsAllowed vars depth needed (Choice c a b) → IsAllowed vars depth needed c
allowed_test vars depth needed c a b h =
    record { low = omega (arith, h.low); comes = λ n. and_then_some (λ x. if is_zero x then value vars b else value vars a) (value vars c) (h.comes n) }

module _ (vars : Variables) (depth d : ℕ) (needed : Bool) (more : depth ≡ suc d) where
  pub allowed_parens : (e : Expression) → IsAllowed vars depth needed (Parens e) → IsAllowed vars d needed e
  allowed_parens e a = record { low = omega (arith, a.low); comes = a.comes }

  pub allowed_unary : (s : Sign) (e : Expression) → IsAllowed vars depth needed (Unary s e) → IsAllowed vars d needed e
  allowed_unary s e a = record { low = omega (arith, a.low); comes = λ n. and_then_some (unary s) (value vars e) (a.comes n) }

  module _ (c a b : Expression) (h : IsAllowed vars depth needed (Choice c a b)) where
    module _ (x : ℤ) (v : needed ≡ true → value vars c ≡ Some x) where
      branches : needed ≡ true → (is_zero x ≡ true → IsSome (value vars b)) × (not (is_zero x) ≡ true → IsSome (value vars a))
      branches n = choose (is_zero x) (value vars b) (value vars a) (and_then_at (λ x. if is_zero x then value vars b else value vars a) (value vars c) x (v n) (h.comes n))

      pub allowed_yes : IsAllowed vars d (needed && not (is_zero x)) a
      allowed_yes = record { low = omega (arith, h.low); comes = λ n. (branches (and_left needed _ n)).1 (and_right needed _ n) }

      pub allowed_no : IsAllowed vars d (needed && is_zero x) b
      allowed_no = record { low = omega (arith, h.low); comes = λ n. (branches (and_left needed _ n)).0 (and_right needed _ n) }

module _ (vars : Variables) (depth : ℕ) (needed : Bool) (o : Operator) (a b : Expression) (h : IsAllowed vars depth needed (Binary o a b)) where
  pub allowed_left : IsAllowed vars depth needed a
  allowed_left = record { low = omega (arith, h.low); comes = λ n. and_then_some (λ x. binary o x (value vars b)) (value vars a) (h.comes n) }

  pub allowed_right : (x : ℤ) → (needed ≡ true → value vars a ≡ Some x) → IsAllowed vars depth (needed && needs_right o x) b
  allowed_right x v = record {
    low = omega (arith, h.low);
    comes = λ n. binary_needs o x (value vars b) (and_right needed _ n) (and_then_at (λ y. binary o y (value vars b)) (value vars a) x (v (and_left needed _ n)) (h.comes (and_left needed _ n)));
  }
