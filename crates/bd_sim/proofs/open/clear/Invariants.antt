use Rattle.std.proofs.Common.{◌≡◌, ℕ, ◌<◌, false, get_or, length}
use Rattle.bd_sim.proofs.open.clear.Given as goal

abbrev pub invariant-loop-index : goal.invariant-loop-index
invariant-loop-index l = record {
  size : length l.marks ≡ length l.initial.marks;
  cleared : (k : ℕ) → k < l.index → get_or l.marks k false ≡ false;
}
