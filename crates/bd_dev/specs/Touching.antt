-- What a run of calls leaves alone: all but some sectors of an area.
use Rattle.std.specs.Prelude.{◌≡◌, ℕ, ◌/◌, ◌*◌, List, length}
use Rattle.bd_dev.specs.declared.plant.Area.{Area}
use Rattle.bd_dev.specs.Content.{Image, Outside, SameSector, window}
use Rattle.bd_dev.specs.Plant.{View}
use Rattle.bd_dev.specs.Runs.{Continues, LeavesOnly, ReadsOnly}

-- outside these n sectors of an area an image holds what old read, where that was synced
abbrev pub KeepsSynced : Area → ℕ → ℕ → View → Image → Type 0
KeepsSynced area lba n old c = (a : Area) (s : ℕ) → Outside area lba n a s → (old.unsynced a s → ⊥) → SameSector (old.reads a) (c a) s

-- outside these n sectors of an area two contents agree
abbrev pub AgreesOutside : Area → ℕ → ℕ → Image → Image → Type 0
AgreesOutside area lba n z c = (a : Area) (s : ℕ) → Outside area lba n a s → SameSector (z a) (c a) s

-- A run that touches at most these n sectors of an area: at every moment all others are as they were.
pub record OnlyTouches (area : Area) (lba n : ℕ) (old new : View) : Type 0 where
  pub reads : AgreesOutside area lba n old.reads new.reads
  pub unsynced : (a : Area) (s : ℕ) → Outside area lba n a s → new.unsynced a s → old.unsynced a s
  pub other_unsynced : (a : Area) (s : ℕ) → (a ≡ area → ⊥) → old.unsynced a s → new.unsynced a s
  pub crash : LeavesOnly old new (KeepsSynced area lba n old)
  pub between : ReadsOnly old new (AgreesOutside area lba n old.reads)

-- the same of a plant that may tell nothing
pub record Touches (area : Area) (lba n : ℕ) (old new : View) : Type 0 where
  pub continues : Continues old new
  pub told : old.tells → OnlyTouches area lba n old new

-- these bytes were written over sectors of z
pub record IsWritten (area : Area) (lba : ℕ) (bytes : List ℕ) (z c : Image) : Type 0 where
  pub outside : AgreesOutside area lba (length bytes / 512) z c
  pub inside : window (c area) (512 * lba) (length bytes) ≡ bytes
