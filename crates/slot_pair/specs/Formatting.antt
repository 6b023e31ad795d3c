-- What a format of a pair of slots leaves of each sector.
use Rattle.std.specs.Prelude.{◌≡◌, ℕ, ◌+◌, ◌*◌, true, false, replicate}
use Rattle.bd_dev.specs.declared.plant.Area.{Area}
use Rattle.bd_dev.specs.Content.{Image, Outside, SameSector, window}
use Rattle.bd_dev.specs.Plant.{View}
use Rattle.bd_dev.specs.Runs.{LeavesOnly, ReadsOnly}
use Rattle.slot_model.specs.Slots.{is_open_gate}

-- on these sectors two contents agree
abbrev pub AgreesOn : (Area → ℕ → Type 0) → Image → Image → Type 0
AgreesOn Spared z c = (a : Area) (s : ℕ) → Spared a s → SameSector (z a) (c a) s

-- on these sectors an image holds what old read, where that was synced
abbrev pub KeepsOn : (Area → ℕ → Type 0) → View → Image → Type 0
KeepsOn Spared old c = (a : Area) (s : ℕ) → Spared a s → (old.unsynced a s → ⊥) → SameSector (old.reads a) (c a) s

-- A run that leaves these sectors alone: at every moment they are as they were.
pub record LeavesAlone (Spared : Area → ℕ → Type 0) (old new : View) : Type 0 where
  pub reads : AgreesOn Spared old.reads new.reads
  pub unsynced : (a : Area) (s : ℕ) → Spared a s → new.unsynced a s → old.unsynced a s
  pub crash : LeavesOnly old new (KeepsOn Spared old)
  pub between : ReadsOnly old new (AgreesOn Spared old.reads)

-- a sector that is no gate of the pair and none of the first m sectors of the first slot's body
abbrev pub IsBesideFormat : ℕ → Area → ℕ → ℕ → Area → ℕ → Type 0
IsBesideFormat n area base m a s = Outside area base (m + 1) a s × Outside area (base + n + 1) 1 a s

-- a gate after its closing: zeros where it read open, and else what it read
pub record IsShut (z c : ℕ → ℕ) (gate : ℕ) : Type 0 where
  pub zeros : is_open_gate z gate ≡ true → window c (512 * gate) 512 ≡ replicate 512 0
  pub same : is_open_gate z gate ≡ false → SameSector z c gate
