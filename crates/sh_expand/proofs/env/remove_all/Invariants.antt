use Rattle.std.proofs.Common.{◌≡◌, length}
use Rattle.sh_expand.specs.Environment.{without}
use Rattle.sh_expand.proofs.env.remove_all.Given as goal

abbrev pub invariant-pairs : goal.invariant-pairs
invariant-pairs l = without l.name l.variables.items ≡ without l.name l.initial.variables.items

abbrev pub decreases-pairs : goal.decreases-pairs
decreases-pairs l = length l.variables.items
