-- What a reader of constants found.
use Rattle.std.proofs.Common.{◌≡◌, ℕ, refl, Option, Some, None}
use Rattle.sh_arith.specs.declared.constant.Numeral.{Numeral}
use Rattle.sh_arith.specs.Text.{Text}
use Rattle.sh_arith.specs.Numeral.{Reads, ReadsConstant}
use Rattle.sh_arith.specs.Token.{Front, number, number_or}

pub number_read : (numeral : Numeral) (o : Option (ℕ × Text)) → ReadsConstant (Some numeral) o → (read : ℕ × Text) × Reads numeral read × (number_or o ≡ number read.0 read.1)
number_read numeral None h = absurd h
number_read numeral (Some read) h = (read, h, refl)
