use Rattle.std.proofs.Common.{◌≡◌, ℕ, suc, ◌<◌, ◌≤◌}
use Rattle.gpt_copy.specs.declared.table.Entry.{Entry}
use Rattle.storage_model.specs.Entries.{HasEntry}
use Rattle.gpt_table.specs.Runs.{HasSectors, IsFree}
use Rattle.gpt_table.proofs.runs.first_free.Given as goal

-- the sector before is not free, and the entries so far that end before the one end before the first
abbrev pub invariant-loop-place : goal.invariant-loop-place
invariant-loop-place l = record {
  until : l.first ≤ l.at;
  from : l.table.first_usable ≤ l.first;
  below : (s : ℕ) → suc s ≡ l.first → ¬ IsFree l.table s;
  clear : (j : ℕ) (e : Entry) → j < l.place → HasEntry l.table j e → HasSectors e → e.last < l.at → e.last < l.first;
}
