-- Runs of sectors that no partition has.
use Rattle.std.specs.Prelude.{◌≡◌, ◌≢◌, ℕ, suc, ◌-◌, ◌≤◌, Option, Some, None}
use Rattle.gpt_copy.specs.declared.table.Entry.{Entry}
use Rattle.gpt_copy.specs.declared.table.Table.{Table}
use Rattle.storage_model.specs.Entries.{HasEntry, InEntry, unused_type}

-- a sector is usable, and in no used entry
pub record IsFree (t : Table) (s : ℕ) : Type 0 where
  pub from : t.first_usable ≤ s
  pub until : s ≤ t.last_usable
  pub outside : (i : ℕ) (e : Entry) → HasEntry t i e → ¬ InEntry e s

-- the sectors from the first to the last are free, and the run is the widest: neither neighbour is
pub record IsFreeRun (t : Table) (first last : ℕ) : Type 0 where
  pub ordered : first ≤ last
  pub free : (s : ℕ) → first ≤ s → s ≤ last → IsFree t s
  pub below : (s : ℕ) → suc s ≡ first → ¬ IsFree t s
  pub above : ¬ IsFree t (suc last)

-- the widest run of free sectors that holds one
pub record IsRunAt (t : Table) (at first last : ℕ) : Type 0 where
  pub run : IsFreeRun t first last
  pub from : first ≤ at
  pub until : at ≤ last

-- a run is as long as another or longer, and where both have one length it is not behind it
pub record IsAhead (first last other_first other_last : ℕ) : Type 0 where
  pub longer : other_last - other_first ≤ last - first
  pub lower : last - first ≡ other_last - other_first → first ≤ other_first

-- the longest run of free sectors, the lowest of those of one length
pub record IsLargest (t : Table) (first last : ℕ) : Type 0 where
  pub run : IsFreeRun t first last
  pub ahead : (f l : ℕ) → IsFreeRun t f l → IsAhead first last f l

-- where there is a run, the other is ahead of it or the same
abbrev pub IsCovered : Option (ℕ × ℕ) → Option (ℕ × ℕ) → Type 0
IsCovered None other = Unit {0}
IsCovered (Some a) None = ⊥
IsCovered (Some a) (Some b) = IsAhead b.0 b.1 a.0 a.1

-- the entry is used and has a sector at least
pub record HasSectors (e : Entry) : Type 0 where
  pub used : e.kind ≢ unused_type
  pub ordered : e.first ≤ e.last
