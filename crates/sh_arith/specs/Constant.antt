-- Constants: ISO C, 6.4.4.1, without suffixes.
use Rattle.std.specs.Prelude.{◌≡◌, ℕ, ◌+◌, ◌*◌, ◌^◌, ◌≤◌, Bool, false, ◌&&◌, ◌==◌, nat_lt, nat_le, if◌then◌else◌, List, [], ◌∷◌, Option, Some, None}
use Rattle.std.specs.Char.{digit_value}
use Rattle.sh_arith.specs.Text.{Text}

-- the number that the digits at the front write where n was read before, and what follows them
abbrev pub digits : ℕ → ℕ → Text → ℕ × Text
digits base n [] = (n, [])
digits base n (c ∷ t) = if nat_lt (digit_value c) base then digits base (n * base + digit_value c) t else (n, c ∷ t)

abbrev pub begins_hex : Text → Bool
begins_hex [] = false
begins_hex (c ∷ t) = nat_lt (digit_value c) 16

-- what follows an `x`, where a hexadecimal digit does
abbrev pub hex_digits : Text → Option Text
hex_digits [] = None
hex_digits (c ∷ t) = if c == 120 && begins_hex t then Some t else None

abbrev pub hex_or_octal : Option Text → Text → ℕ × Text
hex_or_octal None t = digits 8 0 t
hex_or_octal (Some hex) t = digits 16 0 hex

-- after a `0`: `x` and hexadecimal digits, or octal digits
abbrev pub leading_zero : Text → ℕ × Text
leading_zero t = hex_or_octal (hex_digits t) t

-- the constant at the front, and what follows it
abbrev pub constant : Text → Option (ℕ × Text)
constant [] = None
constant (c ∷ t) =
    if c == 48 then Some (leading_zero t)
    else if nat_lt (digit_value c) 10 then Some (digits 10 (digit_value c) t)
    else None
