use Rattle.std.proofs.Common.{◌≡◌, ℕ, ◌+◌, ◌-◌, ◌*◌, ◌<◌, ◌≤◌, get_or}
use Rattle.bd_sim.proofs.journal.overlay.Given as goal

abbrev pub invariant-loop-index : goal.invariant-loop-index
invariant-loop-index l = record {
  put : (k : ℕ) → l.start ≤ k → k < l.start + l.index → get_or l.out k 0 ≡ get_or l.bytes (l.at + k - 512 * l.lba) 0;
  below : (k : ℕ) → k < l.start → get_or l.out k 0 ≡ get_or l.initial.out k 0;
  above : (k : ℕ) → l.start + l.index ≤ k → get_or l.out k 0 ≡ get_or l.initial.out k 0;
}
