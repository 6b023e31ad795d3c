use Rattle.std.proofs.Common.{◌≡◌, ◌+◌, drop, not}
use Rattle.std.specs.List.{prefix_len}
use Rattle.std.specs.Str.{bytes_eq}
use Rattle.sh_expand.proofs.env.place_of.Given as goal

abbrev pub invariant-loop-at : goal.invariant-loop-at
invariant-loop-at l = prefix_len (λ pair. not (bytes_eq pair.0 l.name)) l.variables ≡ l.at + prefix_len (λ pair. not (bytes_eq pair.0 l.name)) (drop l.at l.variables)
