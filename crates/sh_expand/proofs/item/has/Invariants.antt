use Rattle.std.proofs.Common.{◌≡◌, length}
use Rattle.sh_expand.specs.Pattern.{has}
use Rattle.sh_expand.proofs.item.has.Given as goal

abbrev pub invariant-members : goal.invariant-members
invariant-members l = has l.rest l.byte ≡ has l.content l.byte

abbrev pub decreases-members : goal.decreases-members
decreases-members l = length l.rest
