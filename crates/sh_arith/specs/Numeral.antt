-- What the readers of constants answer.
use Rattle.std.specs.Prelude.{◌≡◌, ℕ, ◌^◌, ◌≤◌, Option, Some, None}
use Rattle.sh_arith.specs.declared.constant.Numeral.{Numeral}
use Rattle.sh_arith.specs.Text.{Text}

-- the number itself, or that it passes 64 bits
abbrev pub Holds : Option ℕ → ℕ → Type 0
Holds None n = 2 ^ 64 ≤ n
Holds (Some m) n = m ≡ n

pub record Reads (numeral : Numeral) (read : ℕ × Text) : Type 0 where
  pub number : Holds numeral.number read.0
  pub rest : numeral.rest.now ≡ read.1

abbrev pub ReadsConstant : Option Numeral → Option (ℕ × Text) → Type 0
ReadsConstant None None = Unit {0}
ReadsConstant None (Some _) = ⊥
ReadsConstant (Some _) None = ⊥
ReadsConstant (Some numeral) (Some read) = Reads numeral read
