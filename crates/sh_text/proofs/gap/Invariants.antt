use Rattle.std.proofs.Common.{◌≡◌, ◌≤◌, length}
use Rattle.sh_text.specs.Front.{gap}
use Rattle.sh_text.proofs.gap.Given as goal

abbrev pub invariant-bytes : goal.invariant-bytes
invariant-bytes l = record { same : gap l.over l.rest ≡ gap l.over l.text; shorter : length l.rest ≤ length l.text }

abbrev pub decreases-bytes : goal.decreases-bytes
decreases-bytes l = length l.rest
