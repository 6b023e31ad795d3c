use Rattle.std.proofs.Common.{◌≡◌, ℕ, suc, ◌<◌, Some, IfSome}
use Rattle.gpt_copy.specs.declared.table.Entry.{Entry}
use Rattle.storage_model.specs.Entries.{HasEntry}
use Rattle.gpt_table.specs.Runs.{IsCovered, IsFreeRun}
use Rattle.gpt_table.proofs.runs.largest_run.Given as goal

-- the largest of the run at the first usable sector and those behind the entries so far
abbrev pub invariant-loop-place : goal.invariant-loop-place
invariant-loop-place l = record {
  run : IfSome l.largest (λ r. IsFreeRun l.table r.0 r.1);
  at_first : (last : ℕ) → IsFreeRun l.table l.table.first_usable last → IsCovered (Some (l.table.first_usable, last)) l.largest;
  behind : (j : ℕ) (e : Entry) (f last : ℕ) → j < l.place → HasEntry l.table j e → IsFreeRun l.table f last → f ≡ suc e.last → IsCovered (Some (f, last)) l.largest;
}
