-- Expressions, how deep operands stand in them, and what they come to.
use Rattle.std.specs.Prelude.{◌≡◌, ℕ, suc, max, Bool, not, if◌then◌else◌, ℤ, pos, Option, Some, None}
use Rattle.std.specs.Option.{option_and_then}
use Rattle.sh_arith.specs.declared.operator.Operator.{Operator}
use Rattle.sh_arith.specs.declared.operator.Sign.{Sign}
use Rattle.sh_arith.specs.Text.{Text}
use Rattle.sh_arith.specs.Names.{Variables, named}
use Rattle.sh_arith.specs.Number.{fitting, is_zero, unary, binary}

pub data Expression : Type 0 where
  Constant : ℕ → Expression
  Name : Text → Expression
  Parens : Expression → Expression
  Unary : Sign → Expression → Expression
  Binary : Operator → Expression → Expression → Expression
  Choice : Expression → Expression → Expression → Expression

-- the most parentheses, unary operators and `?:` together within which an operand stands
abbrev pub height : Expression → ℕ
height (Constant n) = 0
height (Name name) = 0
height (Parens e) = suc (height e)
height (Unary sign e) = suc (height e)
height (Binary operator a b) = max (height a) (height b)
height (Choice c a b) = suc (max (height c) (max (height a) (height b)))

-- The value, if there is no error in what is needed for it. Operands that `&&`, `||` and `?:` don't need don't count.
abbrev pub value : Variables → Expression → Option ℤ
value variables (Constant n) = fitting (pos n)
value variables (Name name) = named variables name
value variables (Parens e) = value variables e
value variables (Unary sign e) = option_and_then (unary sign) (value variables e)
value variables (Binary operator a b) = option_and_then (λ x. binary operator x (value variables b)) (value variables a)
value variables (Choice c a b) = option_and_then (λ x. if is_zero x then value variables b else value variables a) (value variables c)
