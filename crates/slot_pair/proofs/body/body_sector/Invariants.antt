use Rattle.std.proofs.Common.{◌≡◌, ℕ, ◌<◌, ◌+◌, ◌*◌, ◌++◌, get_or}
use Rattle.slot_pair.proofs.body.body_sector.Given as goal

abbrev pub invariant-loop-k : goal.invariant-loop-k
invariant-loop-k l = (k : ℕ) → k < l.k → get_or l.byte-items k 0 ≡ get_or (l.head ++ l.content) (512 * l.index + k) 0
