use Rattle.std.proofs.Common.{◌≡◌, ℕ, ◌*◌, ◌<◌, get_or, length, take, drop}
use Rattle.gpt_copy.specs.declared.table.Entry.{Entry}
use Rattle.gpt_copy.specs.Entries.{entry_of}
use Rattle.gpt_copy.proofs.entries.read_entries.Given as goal

abbrev pub invariant-loop-place : goal.invariant-loop-place
invariant-loop-place l = record { long : length l.entry-items ≡ 128; done : (j : ℕ) (d : Entry) → j < l.place → get_or l.entry-items j d ≡ entry_of (take 128 (drop (128 * j) l.bytes)) }
