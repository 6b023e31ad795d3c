-- What a plant's calls do to what it reads, and what a crash at any moment may leave.
use Rattle.std.specs.Prelude.{◌≡◌, ◌⊎◌, ℕ, ◌+◌, ◌-◌, ◌/◌, ◌%◌, ◌^◌, ◌<◌, ◌≤◌, min, Result, IsOk}
use Rattle.bd_dev.specs.declared.plant.Area.{Area}
use Rattle.bd_dev.specs.Content.{Image, SameSector, Outside}

-- What a plant is to those who use it.
pub record View : Type 1 where
  pub tells : Type 0  -- it tells what it holds; all but the sizes and the faults are told
  pub size : Area → ℕ  -- the number of sectors
  pub reads : Image  -- what it reads
  pub unsynced : Area → ℕ → Type 0  -- the sectors written since the area's last successful sync
  pub moment : ℕ  -- a clock
  pub left_since : ℕ → Image → Type 0  -- what a crash at some moment since then might have left
  pub read_since : ℕ → Image → Type 0  -- what it read between two of its calls since then
  pub writes : Area → ℕ  -- how many sectors its writes were given, by area
  pub faults : ℕ  -- the count of faults

-- A crash now may leave this: each sector that is synced as it reads, and any bytes elsewhere.
abbrev pub IsImage : View → Image → Type 0
IsImage v c = (a : Area) (s : ℕ) → (v.unsynced a s → ⊥) → SameSector (v.reads a) (c a) s

-- Time goes on: since t there is what there was before, or what there is now.
pub record Elapses (before : ℕ) (past since : ℕ → Image → Type 0) (there : Image → Type 0) : Type 0 where
  pub nothing_else : (t : ℕ) (c : Image) → t ≤ before → since t c → past t c ⊎ there c
  pub keeps : (t : ℕ) (c : Image) → t ≤ before → past t c → since t c

-- What holds of each call, whatever it answers: what a crash within it leaves, a crash after it may leave too.
pub record Passes (old new : View) : Type 0 where
  pub size : (a : Area) → new.size a ≡ old.size a
  pub tells : new.tells → old.tells
  pub still_tells : old.tells → new.tells
  pub later : old.moment ≤ new.moment
  pub crash : old.tells → Elapses old.moment old.left_since new.left_since (IsImage new)

-- What was read between two calls, up to the first that failed: a call that fails adds nothing.
pub record ReadsBetween {T E : Type 0} (result : Result T E) (old new : View) : Type 0 where
  pub nothing_else : (t : ℕ) (c : Image) → t ≤ old.moment → new.read_since t c → old.read_since t c ⊎ (IsOk result × (c ≡ new.reads))
  pub keeps : (t : ℕ) (c : Image) → t ≤ old.moment → old.read_since t c → new.read_since t c
  pub added : IsOk result → (t : ℕ) → t ≤ old.moment → new.read_since t new.reads

-- what is read at this sector, and whether it is unsynced, is as before
pub record Unchanged (old new : View) (a : Area) (s : ℕ) : Type 0 where
  pub reads : SameSector (old.reads a) (new.reads a) s
  pub unsynced : new.unsynced a s → old.unsynced a s
  pub still_unsynced : old.unsynced a s → new.unsynced a s

-- which sectors are unsynced is as before
pub record KeepsUnsynced (old new : View) : Type 0 where
  pub unsynced : (a : Area) (s : ℕ) → new.unsynced a s → old.unsynced a s
  pub still_unsynced : (a : Area) (s : ℕ) → old.unsynced a s → new.unsynced a s

-- a call that only reads
pub record OnlyReads (old new : View) : Type 0 where
  pub reads : new.reads ≡ old.reads
  pub unsynced : KeepsUnsynced old new
  pub writes : new.writes ≡ old.writes

-- an area's count of sectors that were written, n higher; it is kept in 64 bits and stays at its greatest value
abbrev pub written_more : ℕ → ℕ → ℕ
written_more count n = min (count + n) (2 ^ 64 - 1)

-- this area's count is n higher, and the other area's is as it was
pub record CountsWrites (area : Area) (n : ℕ) (old new : View) : Type 0 where
  pub here : new.writes area ≡ written_more (old.writes area) n
  pub elsewhere : (a : Area) → (a ≡ area → ⊥) → new.writes a ≡ old.writes a

-- a write of n sectors, whatever it answers
pub record WritesTo (area : Area) (lba n : ℕ) (old new : View) : Type 0 where
  pub outside : (a : Area) (s : ℕ) → Outside area lba n a s → Unchanged old new a s
  pub counted : CountsWrites area n old new

-- these n sectors are unsynced
abbrev pub AreUnsynced : View → Area → ℕ → ℕ → Type 0
AreUnsynced v area lba n = (s : ℕ) → lba ≤ s → s < lba + n → v.unsynced area s

-- a sync of an area, whatever it answers
pub record Syncs (area : Area) (old new : View) : Type 0 where
  pub reads : new.reads ≡ old.reads
  pub unsynced : (a : Area) (s : ℕ) → new.unsynced a s → old.unsynced a s
  pub other_unsynced : (a : Area) (s : ℕ) → (a ≡ area → ⊥) → old.unsynced a s → new.unsynced a s
  pub writes : new.writes ≡ old.writes

-- nothing of an area is unsynced
abbrev pub IsSynced : View → Area → Type 0
IsSynced v area = (s : ℕ) → v.unsynced area s → ⊥

-- n bytes from this sector on, which a call may name: whole sectors, at least one, within the area
pub record IsRange (v : View) (area : Area) (lba n : ℕ) : Type 0 where
  pub positive : 0 < n
  pub whole : n % 512 ≡ 0
  pub within : lba + n / 512 ≤ v.size area

-- What holds of each plant: what it reads and what a crash now may leave is among what there was since any time.
pub record IsHonest (v : View) : Type 0 where
  pub small : (a : Area) → v.size a ≤ 2 ^ 40
  pub counts_now : v.tells → (t : ℕ) (c : Image) → t ≤ v.moment → IsImage v c → v.left_since t c
  pub only_now : v.tells → (c : Image) → v.left_since v.moment c → IsImage v c
  pub between_now : v.tells → (c : Image) → v.read_since v.moment c → c ≡ v.reads
  pub between : v.tells → (t : ℕ) (c : Image) → t ≤ v.moment → v.read_since t c → v.left_since t c
