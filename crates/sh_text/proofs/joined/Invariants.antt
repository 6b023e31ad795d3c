use Rattle.std.proofs.Common.{◌≡◌, ◌≤◌, length}
use Rattle.sh_text.specs.Front.{joined}
use Rattle.sh_text.proofs.joined.Given as goal

abbrev pub invariant-joins : goal.invariant-joins
invariant-joins l = record { same : joined l.rest ≡ joined l.text; shorter : length l.rest ≤ length l.text }

abbrev pub decreases-joins : goal.decreases-joins
decreases-joins l = length l.rest
