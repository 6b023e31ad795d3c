use Rattle.std.proofs.Common.{◌≡◌, ℕ, ◌*◌, ◌<◌, get_or, length, take}
use Rattle.std.specs.List.{flat_map}
use Rattle.gpt_copy.specs.declared.table.Entry.{Entry}
use Rattle.gpt_copy.specs.Entries.{entry_of}
use Rattle.gpt_copy.specs.Writing.{entry_spelling}
use Rattle.gpt_copy.proofs.writing.entries.write_each.Given as goal

-- the entries so far are written, each of which can be read again
abbrev pub invariant-loop-place : goal.invariant-loop-place
invariant-loop-place l = record {
  written : take (128 * l.place) l.out ≡ flat_map entry_spelling (take l.place l.entries);
  long : (k : ℕ) (d : Entry) → k < l.place → length (entry_spelling (get_or l.entries k d)) ≡ 128;
  reads : (k : ℕ) (d : Entry) → k < l.place → entry_of (entry_spelling (get_or l.entries k d)) ≡ get_or l.entries k d;
}
