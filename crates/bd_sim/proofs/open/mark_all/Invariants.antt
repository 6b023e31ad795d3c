use Rattle.std.proofs.Common.{◌≡◌, ℕ, ◌<◌, false, get_or, length, take}
use Rattle.bd_sim.specs.Journal.{State, after_each}
use Rattle.bd_sim.proofs.open.mark_all.Given as goal

abbrev pub invariant-loop-noted : goal.invariant-loop-noted
invariant-loop-noted l = record {
  size : length l.marks ≡ length l.initial.marks;
  marked : (s : State) (k : ℕ) → k < length l.initial.marks → get_or l.initial.marks k false ≡ s.unsynced l.area k → get_or l.marks k false ≡ (after_each s (take l.noted-index l.journal)).unsynced l.area k;
}
