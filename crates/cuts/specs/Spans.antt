-- What a board's calls leave behind, from an earlier value of it to a later one.
use Rattle.std.specs.Prelude.{◌≡◌, ◌⊎◌, ℕ, ◌+◌, ◌<◌, ◌≤◌, List, ◌++◌, length, Bool, true, false, Some}
use Rattle.bd_dev.specs.declared.plant.Area.{Area}
use Rattle.bd_dev.specs.declared.plant.Area.TheVariants.{Disk, Flash}
use Rattle.bd_dev.specs.Content.{Image, SameSector}
use Rattle.bd_dev.specs.Plant.{View, IsImage, IsSynced}
use Rattle.gpt_copy.specs.declared.table.Table.{Table}
use Rattle.bd_dev.specs.Runs.{LeavesOnly, ReadsOnly}
use Rattle.storage_model.specs.Variables.{kept_in}
use Rattle.storage_model.specs.Copies.{AreCopiesSynced, OffCopies, ReadsBoth, IsCleanOpening, HasSameTable}
use Rattle.cuts.specs.declared.effect.Effect.{Effect}
use Rattle.cuts.specs.States.{State, after, pending, nothing, off_copies}
use Rattle.cuts.specs.Cuts.{MayBeCut, MayBeSomeCut, IsSomeCleanCut, stored_of}
use Rattle.cuts.specs.Orderly.{AreLawful}

-- what a board is to those who use it: its plant, what it keeps beside it, and the effects that it had
pub record Value : Type 1 where
  pub view : View
  pub disk : ℕ → ℕ  -- the disk as it reads it: off what is pending, as its plant does
  pub table : Table
  pub text : List ℕ
  pub number : ℕ
  pub journal : List Effect
  pub failed : Bool

-- the state that a board reads
abbrev pub state_of : Value → State
state_of v = record {
  table = v.table;
  text = v.text;
  number = v.number;
  disk = off_copies (v.view.size Disk) v.disk;
}

-- the sectors that its effects leave unsynced
abbrev pub pending_of : Value → ℕ → Type 0
pending_of v = pending nothing v.journal

-- A board that stands: both copies read as its table, and the flash holds its variables.
pub record Stands (v : Value) : Type 0 where
  pub table : ReadsBoth (v.view.size Disk) (v.view.reads Disk) v.table
  pub variables : kept_in (v.view.size Flash) (v.view.reads Flash) ≡ Some (stored_of (state_of v))

-- off what is pending a board reads what its plant reads
abbrev pub IsHeld : Value → Type 0
IsHeld v = (q : ℕ) → (pending_of v q → ⊥) → SameSector v.disk (v.view.reads Disk) q

-- All that is unsynced is pending: sectors of the disk off the copies, which effects put, and none of the flash.
pub record HasOnlyPending (v : Value) : Type 0 where
  pub disk : (q : ℕ) → v.view.unsynced Disk q → pending_of v q
  pub copies : AreCopiesSynced v.view
  pub flash : IsSynced v.view Flash
  pub held : IsHeld v

-- at a board that failed in an effect all effects but that one are done, otherwise all
abbrev pub IsReached : Bool → ℕ → List Effect → Type 0
IsReached failed k xs = (k ≡ length xs) ⊎ ((failed ≡ true) × (k + 1 ≡ length xs))

-- From an earlier value of a board, which had not failed, to a later one.
pub record Spans (old new : Value) : Type 0 where
  pub effects : List Effect
  pub journal : new.journal ≡ old.journal ++ effects
  pub still_tells : old.view.tells → new.view.tells
  pub size : (a : Area) → new.view.size a ≡ old.view.size a
  pub lawful : AreLawful (old.view.size Disk) (state_of old) effects
  pub state : new.failed ≡ false → state_of new ≡ after (state_of old) effects
  pub stands : new.failed ≡ false → Stands new
  pub crash : LeavesOnly old.view new.view (MayBeSomeCut old.view.size (state_of old) (pending_of old) effects)
  pub between : ReadsOnly old.view new.view (IsSomeCleanCut old.view.size (state_of old) (pending_of old) effects)
  pub count : ℕ  -- of the effects that are done, for all images at the end
  pub count_is : IsReached new.failed count effects
  pub now : (c : Image) → IsImage new.view c → MayBeCut old.view.size (state_of old) (pending_of old) effects count c

-- An image is a cut with no effects from what z reads, while the board is opened. Where z has no table, or no
-- variables, the image has none.
pub record MayBeOpeningCut (size : Area → ℕ) (z c : Image) : Type 0 where
  pub table : IsCleanOpening (size Disk) z c → HasSameTable (size Disk) z c
  pub variables : kept_in (size Flash) (c Flash) ≡ kept_in (size Flash) (z Flash)
  pub sectors : (q : ℕ) → q < size Disk → OffCopies (size Disk) q → SameSector (z Disk) (c Disk) q

-- From some moment on, once both syncs have succeeded, a crash leaves cuts alone.
pub record IsSettledFrom (old new : View) (m : ℕ) : Type 0 where
  pub from : old.moment ≤ m
  pub to : m ≤ new.moment
  pub cuts : (c : Image) → new.left_since m c → MayBeOpeningCut old.size old.reads c

-- Nothing is unsynced at the end, and from some moment on a crash left cuts alone.
pub record EndsSettled (old new : View) : Type 0 where
  pub disk : IsSynced new Disk
  pub flash : IsSynced new Flash
  pub moment : ℕ
  pub settled : IsSettledFrom old new moment

-- From the entry of an opening to its exit, whatever it answers.
pub record Opens (old new : View) : Type 0 where
  pub crash : LeavesOnly old new (λ c. IsImage old c ⊎ MayBeOpeningCut old.size old.reads c)
  pub settled : LeavesOnly old new (IsImage old) ⊎ ((m : ℕ) × IsSettledFrom old new m)
  pub between : ReadsOnly old new (λ c. IsCleanOpening (old.size Disk) old.reads c × MayBeOpeningCut old.size old.reads c)
