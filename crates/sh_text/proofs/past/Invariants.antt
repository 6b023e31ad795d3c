use Rattle.std.proofs.Common.{◌≡◌, ◌≤◌, length}
use Rattle.sh_text.specs.Front.{past}
use Rattle.sh_text.proofs.past.Given as goal

abbrev pub invariant-run : goal.invariant-run
invariant-run l = record { same : past l.class l.rest ≡ past l.class l.text; shorter : length l.rest ≤ length l.text }

abbrev pub decreases-run : goal.decreases-run
decreases-run l = length l.rest
