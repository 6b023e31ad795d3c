use Rattle.std.proofs.Common.{ℕ, ◌<◌}
use Rattle.gpt_table.specs.Together.{Stands}
use Rattle.gpt_table.proofs.sanity.sane.Given as goal

abbrev pub invariant-loop-place : goal.invariant-loop-place
invariant-loop-place l = (i : ℕ) → i < l.place → Stands l.table i
