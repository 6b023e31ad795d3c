-- Signed numbers of 64 bits, and what operators make of them (ISO C, 6.5; POSIX.1-2017, Shell Command Language, 2.6.4).
-- No value means an error: what C leaves undefined.
use Rattle.std.specs.Prelude.{◌≡◌, ℕ, zero, suc, ◌^◌, Bool, not, ◌==◌, nat_lt, nat_le, ◌&&◌, if◌then◌else◌, ℤ, pos, negsuc, neg_ℤ, ◌+ℤ◌, ◌-ℤ◌, ◌*ℤ◌, int_lt, int_div, int_rem, bit_and, bit_or, bit_xor, Option, Some, None, option_map}
use Rattle.std.specs.Option.{option_and_then}
use Rattle.std.specs.Ordering.{int_eq}
use Rattle.std.specs.Int.{w64, cast_signed, cast_unsigned, int_shr}
use Rattle.sh_arith.specs.declared.operator.Operator.{Operator}
use Rattle.sh_arith.specs.declared.operator.Operator.TheVariants.{Or, And, BitOr, BitXor, BitAnd, Equal, NotEqual, Below, AtMost, Above, AtLeast, ShiftLeft, ShiftRight, Add, Subtract, Multiply, Divide, Remainder}
use Rattle.sh_arith.specs.declared.operator.Sign.{Sign}
use Rattle.sh_arith.specs.declared.operator.Sign.TheVariants.{Minus, Plus, Not, Complement}

-- the number, where it has 64 bits
abbrev pub fitting : ℤ → Option ℤ
fitting (pos n) = if nat_lt n (2 ^ 63) then Some (pos n) else None
fitting (negsuc n) = if nat_lt n (2 ^ 63) then Some (negsuc n) else None

abbrev pub is_zero : ℤ → Bool
is_zero (pos n) = n == 0
is_zero (negsuc n) = Bool.false

-- 1 for what holds
abbrev pub truth : Bool → ℤ
truth b = if b then pos 1 else pos 0

-- by the bits of two's complement
abbrev pub bitwise : (ℕ → ℕ → ℕ) → ℤ → ℤ → ℤ
bitwise f x y = cast_signed w64 (f (cast_unsigned w64 x) (cast_unsigned w64 y))

-- a shift is by a number from 0 to 63
abbrev pub amount : ℤ → Option ℕ
amount (pos n) = if nat_lt n 64 then Some n else None
amount (negsuc n) = None

-- a quotient or remainder: the divisor isn't 0, and the quotient fits. Both go towards zero.
abbrev pub divided : (ℤ → ℤ → ℤ) → ℤ → ℤ → Option ℤ
divided f x y = if is_zero y then None else option_map (λ _. f x y) (fitting (int_div x y))

-- an operator whose two operands are always needed
abbrev pub strict : Operator → ℤ → ℤ → Option ℤ
strict Or x y = None
strict And x y = None
strict BitOr x y = Some (bitwise bit_or x y)
strict BitXor x y = Some (bitwise bit_xor x y)
strict BitAnd x y = Some (bitwise bit_and x y)
strict Equal x y = Some (truth (int_eq x y))
strict NotEqual x y = Some (truth (not (int_eq x y)))
strict Below x y = Some (truth (int_lt x y))
strict AtMost x y = Some (truth (not (int_lt y x)))
strict Above x y = Some (truth (int_lt y x))
strict AtLeast x y = Some (truth (not (int_lt x y)))
strict ShiftLeft x y = option_and_then (λ n. fitting (x *ℤ pos (2 ^ n))) (amount y)
strict ShiftRight x y = option_map (int_shr x) (amount y)
strict Add x y = fitting (x +ℤ y)
strict Subtract x y = fitting (x -ℤ y)
strict Multiply x y = fitting (x *ℤ y)
strict Divide x y = divided int_div x y
strict Remainder x y = divided int_rem x y

-- whether the right operand is needed after this left one
abbrev pub needs_right : Operator → ℤ → Bool
needs_right Or x = is_zero x
needs_right And x = not (is_zero x)
needs_right _ x = Bool.true

-- a left operand, and what the right one comes to, if that is needed
abbrev pub binary : Operator → ℤ → Option ℤ → Option ℤ
binary Or x right = if is_zero x then option_map (λ y. truth (not (is_zero y))) right else Some (pos 1)
binary And x right = if is_zero x then Some (pos 0) else option_map (λ y. truth (not (is_zero y))) right
binary operator x right = option_and_then (strict operator x) right

abbrev pub unary : Sign → ℤ → Option ℤ
unary Minus x = fitting (neg_ℤ x)
unary Plus x = Some x
unary Not x = Some (truth (is_zero x))
unary Complement x = Some (negsuc 0 -ℤ x)
