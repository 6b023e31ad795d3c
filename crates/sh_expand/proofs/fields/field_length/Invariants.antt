use Rattle.std.proofs.Common.{◌≡◌, ℕ, ◌<◌, false, get_or}
use Rattle.sh_expand.specs.Fields.{is_delimiter}
use Rattle.sh_expand.proofs.fields.field_length.Given as goal

abbrev pub invariant-loop-end : goal.invariant-loop-end
invariant-loop-end l = (k : ℕ) → k < l.end → is_delimiter l.ifs (get_or l.pieces k (0, false)) ≡ false
