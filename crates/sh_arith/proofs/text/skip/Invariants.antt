use Rattle.std.proofs.Common.{◌≡◌, ◌≤◌, length}
use Rattle.sh_arith.specs.Text.{skip}
use Rattle.sh_arith.proofs.text.skip.Given as goal

abbrev pub invariant-blanks : goal.invariant-blanks
invariant-blanks l = (skip l.rest ≡ skip l.text) × (length l.rest ≤ length l.text)

abbrev pub decreases-blanks : goal.decreases-blanks
decreases-blanks l = length l.rest
