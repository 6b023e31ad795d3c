use Rattle.std.proofs.Common.{ℕ, ◌<◌}
use Rattle.gpt_table.specs.Edits.{IsUnused}
use Rattle.gpt_table.proofs.edits.least_unused.Given as goal

abbrev pub invariant-loop-place : goal.invariant-loop-place
invariant-loop-place l = (j : ℕ) → j < l.place → ¬ IsUnused l.table j
