use Rattle.std.proofs.Common.{◌≡◌, ◌^◌, ◌-◌, min, take}
use Rattle.sh_expand.specs.Environment.{size}
use Rattle.sh_expand.proofs.env.size_of.Given as goal

abbrev pub invariant-loop-name : goal.invariant-loop-name
invariant-loop-name l = l.total ≡ min (size (take l.name-index l.variables)) (2 ^ 64 - 1)
