use Rattle.std.proofs.Common.{◌≡◌, length}
use Rattle.waterfall.specs.Leases.{holds_mark}
use Rattle.waterfall.proofs.urls.holds_mark.Given as goal

abbrev pub invariant-loop-rest : goal.invariant-loop-rest
invariant-loop-rest l = holds_mark l.rest ≡ holds_mark l.text

abbrev pub decreases-loop-rest : goal.decreases-loop-rest
decreases-loop-rest l = length l.rest
