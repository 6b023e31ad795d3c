-- The operators, as ISO C spells and ranks them (6.5), those that the shell has.
use Rattle.std.specs.Prelude.{◌≡◌, ℕ, Bool, ◌&&◌, ◌==◌, if◌then◌else◌, List, [], ◌∷◌, Option, Some, None, option_map}
use Rattle.std.specs.Option.{option_or, option_and_then}
use Rattle.std.specs.Borrow.{Bor}
use Rattle.sh_arith.specs.declared.operator.Operator.{Operator}
use Rattle.sh_arith.specs.declared.operator.Operator.TheVariants.{Or, And, BitOr, BitXor, BitAnd, Equal, NotEqual, Below, AtMost, Above, AtLeast, ShiftLeft, ShiftRight, Add, Subtract, Multiply, Divide, Remainder}
use Rattle.sh_arith.specs.declared.operator.Sign.{Sign}
use Rattle.sh_arith.specs.declared.operator.Sign.TheVariants.{Minus, Plus, Not, Complement}
use Rattle.sh_arith.specs.Text.{Text, skip}

-- how loosely an operator binds: `*` binds tightest
abbrev pub looseness : Operator → ℕ
looseness Or = 10
looseness And = 9
looseness BitOr = 8
looseness BitXor = 7
looseness BitAnd = 6
looseness Equal = 5
looseness NotEqual = 5
looseness Below = 4
looseness AtMost = 4
looseness Above = 4
looseness AtLeast = 4
looseness ShiftLeft = 3
looseness ShiftRight = 3
looseness Add = 2
looseness Subtract = 2
looseness Multiply = 1
looseness Divide = 1
looseness Remainder = 1

-- the operators of two bytes: `||` `&&` `==` `!=` `<=` `>=` `<<` `>>`
abbrev pub pair : ℕ → ℕ → Option Operator
pair c d =
    if c == 124 && d == 124 then Some Or
    else if c == 38 && d == 38 then Some And
    else if c == 61 && d == 61 then Some Equal
    else if c == 33 && d == 61 then Some NotEqual
    else if c == 60 && d == 61 then Some AtMost
    else if c == 62 && d == 61 then Some AtLeast
    else if c == 60 && d == 60 then Some ShiftLeft
    else if c == 62 && d == 62 then Some ShiftRight
    else None

-- those of one byte: `|` `^` `&` `<` `>` `+` `-` `*` `/` `%`
abbrev pub single : ℕ → Option Operator
single c =
    if c == 124 then Some BitOr
    else if c == 94 then Some BitXor
    else if c == 38 then Some BitAnd
    else if c == 60 then Some Below
    else if c == 62 then Some Above
    else if c == 43 then Some Add
    else if c == 45 then Some Subtract
    else if c == 42 then Some Multiply
    else if c == 47 then Some Divide
    else if c == 37 then Some Remainder
    else None

-- those before an operand: `-` `+` `!` `~`
abbrev pub sign : ℕ → Option Sign
sign c =
    if c == 45 then Some Minus
    else if c == 43 then Some Plus
    else if c == 33 then Some Not
    else if c == 126 then Some Complement
    else None

-- the longest operator at the front, and what follows it
abbrev pub operator_of : Text → Option (Operator × Text)
operator_of [] = None
operator_of (c ∷ []) = option_map (λ o. (o, [])) (single c)
operator_of (c ∷ d ∷ t) = option_or (option_map (λ o. (o, t)) (pair c d)) (option_map (λ o. (o, d ∷ t)) (single c))

-- the same after any blanks
abbrev pub operator_at : Text → Option (Operator × Text)
operator_at text = operator_of (skip text)

-- the same where it binds so loosely
abbrev pub operator_in : ℕ → Text → Option (Operator × Text)
operator_in loose text = option_and_then (λ found. if looseness found.0 == loose then Some found else None) (operator_at text)

abbrev pub Operates : Option (Operator × Bor (List ℕ)) → Option (Operator × Text) → Type 0
Operates found at = option_map (λ p. (p.0, p.1.now)) found ≡ at
