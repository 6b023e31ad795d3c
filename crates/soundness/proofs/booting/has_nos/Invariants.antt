use Rattle.std.proofs.Common.{ℕ, ◌<◌}
use Rattle.gpt_copy.specs.declared.table.Entry.{Entry}
use Rattle.storage_model.specs.Entries.{NosEntry}
use Rattle.soundness.proofs.booting.has_nos.Given as goal

abbrev pub invariant-loop-place : goal.invariant-loop-place
invariant-loop-place l = (i : ℕ) (e : Entry) → i < l.place → NosEntry l.table l.guid i e → ⊥
