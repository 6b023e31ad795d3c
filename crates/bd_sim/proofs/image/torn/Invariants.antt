use Rattle.std.proofs.Common.{◌≡◌, ℕ, ◌<◌, ◌≤◌, get_or, length}
use Rattle.bd_sim.proofs.image.torn.Given as goal

abbrev pub invariant-loop-index : goal.invariant-loop-index
invariant-loop-index l = record {
  size : length l.out ≡ 512;
  kept : (k : ℕ) → k < 256 → get_or l.out k 0 ≡ get_or l.initial.out k 0;
  lost : (k : ℕ) → 256 ≤ k → k < l.index → get_or l.out k 0 ≡ l.byte;
}
