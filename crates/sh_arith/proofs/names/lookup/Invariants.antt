use Rattle.std.proofs.Common.{◌≡◌, drop}
use Rattle.sh_arith.specs.Names.{lookup}
use Rattle.sh_arith.proofs.names.lookup.Given as goal

abbrev pub invariant-loop-key : goal.invariant-loop-key
invariant-loop-key l = lookup l.name (drop l.key-index l.variables) ≡ lookup l.name l.variables
