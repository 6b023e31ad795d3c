-- Cuts: what a power cut within a run of effects leaves.
use Rattle.std.specs.Prelude.{◌≡◌, ◌⊎◌, ℕ, ◌+◌, ◌<◌, ◌≤◌, List, length, take, slice_get, Option, Some}
use Rattle.bd_dev.specs.declared.plant.Area.{Area}
use Rattle.bd_dev.specs.declared.plant.Area.TheVariants.{Disk, Flash}
use Rattle.bd_dev.specs.Content.{Image, SameSector}
use Rattle.gpt_copy.specs.declared.table.Table.{Table}
use Rattle.storage_model.specs.Disk.{table_of}
use Rattle.slot_model.specs.Slots.{Stored}
use Rattle.storage_model.specs.Variables.{kept_in}
use Rattle.storage_model.specs.Copies.{OffCopies, ReadsBoth, IsClean, IsCleanBetween, IsEitherTable, Only}
use Rattle.cuts.specs.declared.effect.Effect.{Effect}
use Rattle.cuts.specs.declared.effect.Effect.TheVariants.{Put, Table as SetTable, Vars as SetVars}
use Rattle.cuts.specs.States.{State, InPut, after, pending}

-- The disk's table: the state's, or the new one while that is set.
abbrev pub HasTable : ℕ → State → Option Effect → Image → Type 0
HasTable size s (Some (SetTable new)) c = IsEitherTable size s.table new c
HasTable size s x c = table_of size (c Disk) ≡ Some s.table

abbrev pub stored_of : State → Stored
stored_of s = record { number = s.number; content = s.text }

-- The flash's variables: the state's, or the new ones while those are set.
abbrev pub HasVariables : ℕ → State → Option Effect → Image → Type 0
HasVariables size s (Some (SetVars text)) c =
    (kept_in size (c Flash) ≡ Some (stored_of s)) ⊎ (kept_in size (c Flash) ≡ Some (record { number = s.number + 1; content = text }))
HasVariables size s x c = kept_in size (c Flash) ≡ Some (stored_of s)

-- a sector of what is being put
abbrev pub IsRunning : Option Effect → ℕ → Type 0
IsRunning (Some (Put lba bytes)) q = InPut lba bytes q
IsRunning x q = ⊥

-- Each sector off the copies that isn't pending nor being put holds what the state holds.
abbrev pub HasSectors : ℕ → State → (ℕ → Type 0) → Option Effect → Image → Type 0
HasSectors size s U x c = (q : ℕ) → q < size → OffCopies size q → (U q → ⊥) → (IsRunning x q → ⊥) → SameSector s.disk (c Disk) q

-- An image is a cut in this state, with these sectors pending, while this effect may run.
pub record IsCutAt (size : Area → ℕ) (s : State) (U : ℕ → Type 0) (x : Option Effect) (c : Image) : Type 0 where
  pub table : HasTable (size Disk) s x c
  pub variables : HasVariables (size Flash) s x c
  pub sectors : HasSectors (size Disk) s U x c

-- an image is a cut of a run from this state, with these sectors pending at its start, after the first k effects
abbrev pub IsCut : (Area → ℕ) → State → (ℕ → Type 0) → List Effect → ℕ → Image → Type 0
IsCut size s P xs k c = IsCutAt size (after s (take k xs)) (pending P (take k xs)) (slice_get xs k) c

-- clean while this effect may run: a copy may be torn, but it passes for no other table
abbrev pub IsCleanFor : ℕ → Table → Option Effect → Image → Type 0
IsCleanFor size old (Some (SetTable new)) c = IsCleanBetween size old new c
IsCleanFor size old x c = IsClean size (c Disk) (Only old) (Only old)

-- The table of an image that may not be clean. While the table is set a torn copy is excused; at all other times both
-- copies stand.
abbrev pub MayHaveTable : ℕ → State → Option Effect → Image → Type 0
MayHaveTable size s (Some (SetTable new)) c = IsCleanBetween size s.table new c → IsEitherTable size s.table new c
MayHaveTable size s x c = ReadsBoth size (c Disk) s.table

-- An image is a cut where it is clean, and but for its table where it is not.
pub record MayBeCutAt (size : Area → ℕ) (s : State) (U : ℕ → Type 0) (x : Option Effect) (c : Image) : Type 0 where
  pub table : MayHaveTable (size Disk) s x c
  pub variables : HasVariables (size Flash) s x c
  pub sectors : HasSectors (size Disk) s U x c

abbrev pub MayBeCut : (Area → ℕ) → State → (ℕ → Type 0) → List Effect → ℕ → Image → Type 0
MayBeCut size s P xs k c = MayBeCutAt size (after s (take k xs)) (pending P (take k xs)) (slice_get xs k) c

-- the same, for some number of effects
abbrev pub MayBeSomeCut : (Area → ℕ) → State → (ℕ → Type 0) → List Effect → Image → Type 0
MayBeSomeCut size s P xs c = (k : ℕ) × (k ≤ length xs) × MayBeCut size s P xs k c

-- clean, and a cut, for one number of effects
abbrev pub IsSomeCleanCut : (Area → ℕ) → State → (ℕ → Type 0) → List Effect → Image → Type 0
IsSomeCleanCut size s P xs c =
    (k : ℕ) × (k ≤ length xs) × MayBeCut size s P xs k c × IsCleanFor (size Disk) (after s (take k xs)).table (slice_get xs k) c
