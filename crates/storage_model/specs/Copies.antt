-- The two copies of the table: which sectors they take, which images tear neither, and which runs touch them alone.
use Rattle.std.specs.Prelude.{◌≡◌, ◌⊎◌, ℕ, ◌+◌, ◌-◌, ◌<◌, ◌≤◌, Bool, ◌&&◌, ◌||◌, nat_lt, Some, IfSome}
use Rattle.bd_dev.specs.declared.plant.Area.{Area}
use Rattle.bd_dev.specs.declared.plant.Area.TheVariants.{Disk}
use Rattle.bd_dev.specs.Content.{Image, Outside, SameSector}
use Rattle.bd_dev.specs.Plant.{View}
use Rattle.gpt_copy.specs.declared.table.Table.{Table}
use Rattle.gpt_copy.specs.declared.table.Which.{Which}
use Rattle.gpt_copy.specs.declared.table.Which.TheVariants.{Primary, Backup}
use Rattle.bd_dev.specs.Runs.{Continues, LeavesOnly, ReadsOnly}
use Rattle.bd_dev.specs.Touching.{AgreesOutside, KeepsSynced}
use Rattle.storage_model.specs.Disk.{Found, copy_lba, copy_of, found, table_of}

-- a sector of a disk of so many sectors is in no copy: it is the first, or it lies between the copies
abbrev pub OffCopies : ℕ → ℕ → Type 0
OffCopies size s = (s ≡ 0) ⊎ ((34 ≤ s) × (s + 33 < size))

-- the same of a sector of either area: the flash has no copies
abbrev pub OffTable : ℕ → Area → ℕ → Type 0
OffTable size a s = (a ≡ Disk) → OffCopies size s

-- n sectors from this address on touch one of the 33 behind the first, or of the last 33
abbrev pub touches_copies : ℕ → ℕ → ℕ → Bool
touches_copies size lba n = (nat_lt lba 34 && nat_lt 1 (lba + n)) || nat_lt (size - 33) (lba + n)

-- the other of the two copies
abbrev pub other_copy : Which → Which
other_copy Primary = Backup
other_copy Backup = Primary

-- both copies read as this table
pub record ReadsBoth (size : ℕ) (disk : ℕ → ℕ) (t : Table) : Type 0 where
  pub primary : copy_of Primary size disk ≡ Some t
  pub backup : copy_of Backup size disk ≡ Some t

-- Each copy reads as none, or as one of its tables: no torn copy passes for another table.
pub record IsClean (size : ℕ) (disk : ℕ → ℕ) (A B : Table → Type 0) : Type 0 where
  pub primary : IfSome (copy_of Primary size disk) A
  pub backup : IfSome (copy_of Backup size disk) B

-- this table alone, or one of these two
abbrev pub Only : Table → Table → Type 0
Only a t = t ≡ a

abbrev pub OneOf : Table → Table → Table → Type 0
OneOf a b t = (t ≡ a) ⊎ (t ≡ b)

-- clean while the table is replaced: each copy is torn, or the old table, or the new one
abbrev pub IsCleanBetween : ℕ → Table → Table → Image → Type 0
IsCleanBetween size old new c = IsClean size (c Disk) (OneOf old new) (OneOf old new)

-- the disk's table is the old one or the new one
abbrev pub IsEitherTable : ℕ → Table → Table → Image → Type 0
IsEitherTable size old new c = (table_of size (c Disk) ≡ Some old) ⊎ (table_of size (c Disk) ≡ Some new)

-- while a disk is opened that read as z, a copy is what it was, or the disk's table
abbrev pub MayBeCopy : Which → ℕ → (ℕ → ℕ) → Table → Type 0
MayBeCopy which size z t = (copy_of which size z ≡ Some t) ⊎ (table_of size z ≡ Some t)

-- clean while a disk is opened that read as z
abbrev pub IsCleanOpening : ℕ → Image → Image → Type 0
IsCleanOpening size z c = IsClean size (c Disk) (MayBeCopy Primary size (z Disk)) (MayBeCopy Backup size (z Disk))

-- the disk has the table that it had, or none where it had none
abbrev pub HasSameTable : ℕ → Image → Image → Type 0
HasSameTable size z c = table_of size (c Disk) ≡ table_of size (z Disk)

-- no sector of a copy is unsynced
abbrev pub AreCopiesSynced : View → Type 0
AreCopiesSynced v = (s : ℕ) → v.unsynced Disk s → OffCopies (v.size Disk) s

-- off the copies an image holds what v reads, where that was synced
abbrev pub KeepsOffTable : View → Image → Type 0
KeepsOffTable v c = (a : Area) (s : ℕ) → OffTable (v.size Disk) a s → (v.unsynced a s → ⊥) → SameSector (v.reads a) (c a) s

-- off the copies of a disk of so many sectors two contents agree
abbrev pub AgreesOffTable : ℕ → Image → Image → Type 0
AgreesOffTable size z c = (a : Area) (s : ℕ) → OffTable size a s → SameSector (z a) (c a) s

-- A run that touches at most the copies: at every moment all other sectors are as they were.
pub record OnlyTouchesCopies (old new : View) : Type 0 where
  pub reads : AgreesOffTable (old.size Disk) old.reads new.reads
  pub unsynced : (a : Area) (s : ℕ) → OffTable (old.size Disk) a s → new.unsynced a s → old.unsynced a s
  pub crash : LeavesOnly old new (KeepsOffTable old)
  pub between : ReadsOnly old new (AgreesOffTable (old.size Disk) old.reads)

-- the same of a plant that may tell nothing
pub record TouchesCopies (old new : View) : Type 0 where
  pub continues : Continues old new
  pub told : old.tells → OnlyTouchesCopies old new

-- A run that touches at most this copy: at every moment all else is as it was.
pub record TouchesAtMost (which : Which) (old new : View) : Type 0 where
  pub reads : AgreesOutside Disk (copy_lba which (old.size Disk)) 33 old.reads new.reads
  pub unsynced : (a : Area) (s : ℕ) → Outside Disk (copy_lba which (old.size Disk)) 33 a s → new.unsynced a s → old.unsynced a s
  pub crash : LeavesOnly old new (KeepsSynced Disk (copy_lba which (old.size Disk)) 33 old)

-- A run that touches at most the lesser copy: the one that the disk's table is not read from.
abbrev pub TouchesLesser : View → View → Type 0
TouchesLesser old new = (f : Found) → found (old.size Disk) (old.reads Disk) ≡ Some f → TouchesAtMost (other_copy f.copy) old new

-- A run that writes nothing: the same is read, and no sector was written.
pub record WritesNothing (old new : View) : Type 0 where
  pub reads : new.reads ≡ old.reads
  pub writes : new.writes ≡ old.writes
