use Rattle.std.proofs.Common.{◌≡◌, take}
use Rattle.sh_expand.proofs.env.copy_variables.Given as goal

abbrev pub invariant-loop-name : goal.invariant-loop-name
invariant-loop-name l = l.all.items ≡ take l.name-index l.variables
