use Rattle.std.proofs.Common.{◌≡◌, take, length}
use Rattle.bd_text.proofs.parts.bytes.Given as goal

abbrev pub invariant-loop-place : goal.invariant-loop-place
invariant-loop-place g l = (length l.bytes ≡ g.row.N) × (take l.place l.bytes ≡ take l.place l.numbers)
