-- Which text spells which expression: the grammar of ISO C (6.5), for the operators that the shell has.
-- `X text e rest`: the front of the text is an X that spells e, and the rest follows it.
use Rattle.std.specs.Prelude.{◌≡◌, ◌≤◌, ℕ, zero, suc, ℤ, List, [], ◌∷◌, Option, Some, None}
use Rattle.sh_arith.specs.declared.operator.Operator.{Operator}
use Rattle.sh_arith.specs.declared.operator.Sign.{Sign}
use Rattle.sh_arith.specs.Text.{Text, skip, after}
use Rattle.sh_arith.specs.Names.{Variables}
use Rattle.sh_arith.specs.Operator.{operator_in}
use Rattle.sh_arith.specs.Token.{token_at, signs, opens, number, name}
use Rattle.sh_arith.specs.Tree.{Expression, Constant, Name, Parens, Unary, Binary, Choice, height, value}

mutual
  -- a constant, a name, an expression in parentheses, or a unary operator and its operand
  pub data Operand : Text → Expression → Text → Type 0 where
    constant : {t r : Text} {n : ℕ} → token_at t ≡ number n r → Operand t (Constant n) r
    named : {t r : Text} {text : Text} → token_at t ≡ name text r → Operand t (Name text) r
    parens : {t m k r : Text} {e : Expression} → token_at t ≡ opens m → Conditional m e k → after 41 k ≡ Some r → Operand t (Parens e) r
    sign : {t m r : Text} {s : Sign} {e : Expression} → token_at t ≡ signs s m → Operand m e r → Operand t (Unary s e) r

  -- operands and the operators between them that bind no looser than this
  pub data Level : ℕ → Text → Expression → Text → Type 0 where
    operand : {t r : Text} {e : Expression} → Operand t e r → Level zero t e r
    level : {n : ℕ} {t m r : Text} {a e : Expression} → Level n t a m → Chain n a m e r → Level (suc n) t e r

  -- what the operators of the next level make of a left operand, from left to right
  pub data Chain : ℕ → Expression → Text → Expression → Text → Type 0 where
    ends : {n : ℕ} {t : Text} {a : Expression} → operator_in (suc n) t ≡ None → Chain n a t a t
    goes : {n : ℕ} {t m k r : Text} {operator : Operator} {a b e : Expression} →
        operator_in (suc n) t ≡ Some (operator, m) → Level n m b k → Chain n (Binary operator a b) k e r → Chain n a t e r

  -- all operators: `?:` binds loosest, and from right to left
  pub data Conditional : Text → Expression → Text → Type 0 where
    plain : {t r : Text} {e : Expression} → Level 10 t e r → after 63 r ≡ None → Conditional t e r
    choice : {t m k l o r : Text} {c a b : Expression} →
        Level 10 t c m → after 63 m ≡ Some k → Conditional k a l → after 58 l ≡ Some o → Conditional o b r → Conditional t (Choice c a b) r

-- the whole text spells the expression
pub record Spells (text : Text) (e : Expression) : Type 0 where
  pub rest : Text
  pub reads : Conditional text e rest
  pub blank : skip rest ≡ []

-- the value of a text: that of its expression, in which no operand stands too deep
pub record IsValue (variables : Variables) (text : Text) (v : ℤ) : Type 0 where
  pub tree : Expression
  pub spells : Spells text tree
  pub low : height tree ≤ 64
  pub comes : value variables tree ≡ Some v
