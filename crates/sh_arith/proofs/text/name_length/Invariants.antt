use Rattle.std.proofs.Common.{◌≡◌, ℕ, ◌<◌, true, get_or}
use Rattle.sh_arith.specs.Text.{is_name_byte}
use Rattle.sh_arith.proofs.text.name_length.Given as goal

abbrev pub invariant-loop-end : goal.invariant-loop-end
invariant-loop-end l = (k : ℕ) → k < l.end → is_name_byte (get_or l.text k 0) ≡ true
