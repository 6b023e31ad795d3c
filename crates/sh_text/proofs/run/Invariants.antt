use Rattle.std.proofs.Common.{◌≡◌, ◌++◌, length}
use Rattle.sh_text.specs.Front.{run}
use Rattle.sh_text.proofs.run.Given as goal

abbrev pub invariant-run : goal.invariant-run
invariant-run l = l.bytes ++ run l.class l.rest ≡ run l.class l.text

abbrev pub decreases-run : goal.decreases-run
decreases-run l = length l.rest
