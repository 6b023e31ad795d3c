use Rattle.std.proofs.Common.{◌≡◌, ℕ, ◌≤◌, length}
use Rattle.sh_arith.specs.Constant.{digits}
use Rattle.sh_arith.specs.Numeral.{Holds}
use Rattle.sh_arith.proofs.constant.digits.Given as goal

abbrev pub invariant-digits : goal.invariant-digits
invariant-digits l = (n : ℕ) × Holds l.number n × (digits l.base n l.rest ≡ digits l.base l.before l.text) × (length l.rest ≤ length l.text)

abbrev pub decreases-digits : goal.decreases-digits
decreases-digits l = length l.rest
