use Rattle.std.proofs.Common.{◌≡◌, ℕ, ◌<◌, ◌||◌, false, get_or, length}
use Rattle.bd_sim.specs.Journal.{in_range}
use Rattle.bd_sim.proofs.open.mark_range.Given as goal

abbrev pub invariant-loop-index : goal.invariant-loop-index
invariant-loop-index l = record {
  size : length l.marks ≡ length l.initial.marks;
  marked : (k : ℕ) → k < length l.initial.marks → get_or l.marks k false ≡ (in_range l.start l.index k || get_or l.initial.marks k false);
}
