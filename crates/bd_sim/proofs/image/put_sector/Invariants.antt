use Rattle.std.proofs.Common.{◌≡◌, ℕ, ◌+◌, ◌<◌, ◌≤◌, get_or}
use Rattle.bd_sim.proofs.image.put_sector.Given as goal

abbrev pub invariant-loop-index : goal.invariant-loop-index
invariant-loop-index l = record {
  put : (k : ℕ) → k < l.index → get_or l.out (l.at + k) 0 ≡ get_or l.sector k 0;
  below : (k : ℕ) → k < l.at → get_or l.out k 0 ≡ get_or l.initial.out k 0;
  above : (k : ℕ) → l.at + l.index ≤ k → get_or l.out k 0 ≡ get_or l.initial.out k 0;
}
