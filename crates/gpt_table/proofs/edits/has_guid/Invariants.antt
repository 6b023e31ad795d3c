use Rattle.std.proofs.Common.{◌≢◌, ℕ, ◌<◌}
use Rattle.gpt_table.specs.Edits.{HasGuidAt}
use Rattle.gpt_table.proofs.edits.has_guid.Given as goal

abbrev pub invariant-loop-place : goal.invariant-loop-place
invariant-loop-place l = (j : ℕ) → j < l.place → j ≢ l.own → ¬ HasGuidAt l.table l.guid j
