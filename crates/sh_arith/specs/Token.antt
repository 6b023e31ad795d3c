-- What an operand begins with.
use Rattle.std.specs.Prelude.{◌≡◌, ℕ, ◌<◌, length, drop, ◌==◌, if◌then◌else◌, List, [], ◌∷◌, Option, Some, None}
use Rattle.std.specs.List.{take_while, prefix_len}
use Rattle.sh_arith.specs.declared.operator.Sign.{Sign as Signs}
use Rattle.sh_arith.specs.declared.token.Token.{Token}
use Rattle.sh_arith.specs.declared.token.Token.TheVariants as found
use Rattle.sh_arith.specs.Text.{Text, skip, is_name_byte, begins_name}
use Rattle.sh_arith.specs.Operator.{sign}
use Rattle.sh_arith.specs.Constant.{constant}
use Rattle.sh_arith.specs.Numeral.{Reads}

-- a sign, an opening parenthesis, a constant or a name, and what follows it; or none of these
pub data Front : Type 0 where
  signs : Signs → Text → Front
  opens : Text → Front
  number : ℕ → Text → Front
  name : Text → Text → Front
  other : Front

abbrev pub number_or : Option (ℕ × Text) → Front
number_or None = other
number_or (Some read) = number read.0 read.1

abbrev pub signs_or : Option Signs → Text → Front → Front
signs_or None t front = front
signs_or (Some s) t front = signs s t

abbrev pub front : Text → Front
front [] = other
front (c ∷ t) = signs_or (sign c) t
    (if c == 40 then opens t
    else if begins_name c then name (take_while is_name_byte (c ∷ t)) (drop (prefix_len is_name_byte (c ∷ t)) (c ∷ t))
    else number_or (constant (c ∷ t)))

-- the same after any blanks
abbrev pub token_at : Text → Front
token_at text = front (skip text)

abbrev pub IsToken : Token → Front → Type 0
IsToken (found.Sign s rest) front = front ≡ signs s rest.now
IsToken (found.Opens rest) front = front ≡ opens rest.now
IsToken (found.Constant numeral) front = (read : ℕ × Text) × Reads numeral read × (front ≡ number read.0 read.1)
IsToken (found.Name text rest) front = front ≡ name text.now rest.now
IsToken found.Other front = front ≡ other

-- what follows the token is shorter than a text of this length
abbrev pub IsShorter : Token → ℕ → Type 0
IsShorter (found.Sign s rest) n = length rest.now < n
IsShorter (found.Opens rest) n = length rest.now < n
IsShorter (found.Constant numeral) n = length numeral.rest.now < n
IsShorter (found.Name text rest) n = length rest.now < n
IsShorter found.Other n = Unit {0}
