use Rattle.std.proofs.Common.{ℕ, ◌<◌}
use Rattle.gpt_copy.specs.declared.table.Entry.{Entry}
use Rattle.storage_model.specs.Entries.{AreApart, HasEntry}
use Rattle.gpt_table.proofs.edits.overlaps.Given as goal

abbrev pub invariant-loop-place : goal.invariant-loop-place
invariant-loop-place l = (j : ℕ) (f : Entry) → j < l.place → HasEntry l.table j f → AreApart f l.entry
