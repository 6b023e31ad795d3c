use Rattle.std.proofs.Common.{ℕ, suc, ◌<◌, ◌≤◌}
use Rattle.gpt_copy.specs.declared.table.Entry.{Entry}
use Rattle.storage_model.specs.Entries.{HasEntry}
use Rattle.gpt_table.specs.Runs.{HasSectors, IsFree}
use Rattle.gpt_table.proofs.runs.last_free.Given as goal

-- the sector behind is not free, and the entries so far that begin behind the one begin behind the last
abbrev pub invariant-loop-place : goal.invariant-loop-place
invariant-loop-place l = record {
  from : l.at ≤ l.last;
  until : l.last ≤ l.table.last_usable;
  above : ¬ IsFree l.table (suc l.last);
  clear : (j : ℕ) (e : Entry) → j < l.place → HasEntry l.table j e → HasSectors e → l.at < e.first → l.last < e.first;
}
