-- `set` and `unset`: a change of the variables, and what is left of it.
use Rattle.std.specs.Prelude.{◌≡◌, ◌⊎◌, ℕ, ◌+◌, List, IsSome, true, false, Option, Some, None, if◌then◌else◌, is_none}
use Rattle.bd_dev.specs.declared.plant.Area.TheVariants.{Flash}
use Rattle.bd_dev.specs.Plant.{View, IsImage, IsSynced}
use Rattle.boot_vars.specs.declared.fault.VarFault.{VarFault}
use Rattle.boot_vars.specs.declared.fault.VarFault.TheVariants as faults
use Rattle.boot_vars.specs.declared.fault.VarsFault.{VarsFault}
use Rattle.boot_vars.specs.declared.fault.VarsFault.TheVariants as opening
use Rattle.boot_vars.specs.Setting.{set_refusal, unset_refusal, with_variable, without}
use Rattle.bd_dev.specs.Runs.{LeavesOnly}
use Rattle.bd_dev.specs.Touching.{Touches}
use Rattle.slot_pair.specs.Putting.{IsEither, stored}
use Rattle.soundness.specs.declared.judging.SoundKind.TheVariants as sounds
use Rattle.slot_model.specs.Slots.{Stored, pair_sectors}
use Rattle.storage_model.specs.Variables.{HoldsVariables, Spells, Variable, kept_in, lines_of, value_among, variables_sectors}
use Rattle.onie_modes.specs.declared.exit.Outcome.TheVariants as outcomes
use Rattle.onie_modes.specs.declared.exit.RefusedKind.{RefusedKind}
use Rattle.onie_modes.specs.declared.exit.RefusedKind.TheVariants as refusals
use Rattle.onie_modes.specs.declared.exit.Status.{Status}
use Rattle.onie_modes.specs.declared.exit.Status.TheVariants as statuses
use Rattle.onie_modes.specs.Course.{Course, Plan, ends, the_plant}
use Rattle.onie_modes.specs.Devices.{Device, Use, Unused, Written, ThePlant, TheConsole}
use Rattle.onie_modes.specs.declared.exit.RefusedKind.{RefusedKind}

-- The flash holds these variables, kept so.
pub record Holds (v : View) (kept : Stored) (vs : List Variable) : Type 0 where
  pub holds : HoldsVariables (v.size Flash) (v.reads Flash) kept
  pub spells : Spells kept.content vs

-- what the flash keeps
abbrev pub kept_by : View → Option Stored
kept_by v = kept_in (v.size Flash) (v.reads Flash)

-- A change: why it is refused for what is kept and those variables, and what is kept after it.
pub record Change : Type 0 where
  pub refusal : Stored → List Variable → Option VarFault
  pub after : Stored → List Variable → Option Stored

-- the variables with one more value, under the next number
abbrev pub set_change : Variable → Change
set_change v = record {
  refusal = λ kept vs. set_refusal vs kept.number v;
  after = λ kept vs. stored (kept.number + 1) (lines_of (with_variable vs v));
}

-- the variables without one, under the next number; the same where there is none of the name
abbrev pub unset_change : List ℕ → Change
unset_change name = record {
  refusal = λ kept vs. unset_refusal vs kept.number name;
  after = λ kept vs. if is_none (value_among vs name) then Some kept else stored (kept.number + 1) (lines_of (without vs name));
}

-- the refusal that a fault of the variables is; the device's is none
abbrev pub IsKindOf : VarFault → RefusedKind → Type 0
IsKindOf faults.BadName kind = kind ≡ refusals.BadName
IsKindOf faults.BadText kind = kind ≡ refusals.BadText
IsKindOf faults.VarsFull kind = kind ≡ refusals.VarsFull
IsKindOf faults.SeqEnd kind = kind ≡ refusals.SeqEnd
IsKindOf faults.Fault kind = ⊥

-- The plant reads as before, and nothing was written.
pub record IsUnwritten (old new : View) : Type 0 where
  pub reads : new.reads ≡ old.reads
  pub writes : new.writes ≡ old.writes

-- What is done leaves the flash with what is kept after the change, and nothing of it unsynced.
pub record IsMade (after : Option Stored) (new : View) : Type 0 where
  pub kept : kept_by new ≡ after
  pub synced : IsSynced new Flash

-- At every moment a crash leaves what it could have left before, or a flash that keeps what it kept or what is kept after
-- the change.
abbrev pub LeavesEither : Stored → Option Stored → View → View → Type 0
LeavesEither kept after old new = LeavesOnly old new (λ c. IsImage old c ⊎ IsEither (Some kept) after (kept_in (old.size Flash) (c Flash)))

-- the same where nothing of the flash was unsynced: it keeps one of the two
abbrev pub KeepsEither : Stored → Option Stored → View → View → Type 0
KeepsEither kept after old new = LeavesOnly old new (λ c. IsEither (Some kept) after (kept_in (old.size Flash) (c Flash)))

-- A run that syncs the flash and reads: it touches the sectors of the variables alone, writes nothing, and at every
-- moment a crash leaves what it could have left before.
pub record IsSettled (old new : View) : Type 0 where
  pub touches : Touches Flash 0 (pair_sectors variables_sectors) old new
  pub unwritten : old.tells → IsUnwritten old new
  pub crash : old.tells → LeavesOnly old new (IsImage old)

-- What is left of a change, by what the flash keeps, whatever comes of it.
pub record LeavesFlash (change : Change) (old new : View) (end : Status) : Type 0 where
  -- the sectors of the variables alone are touched, at any moment
  pub touches : Touches Flash 0 (pair_sectors variables_sectors) old new
  -- without variables nothing is written, and at every moment a crash leaves what it could have left before
  pub none : old.tells → ((kept : Stored) → ¬ HoldsVariables (old.size Flash) (old.reads Flash) kept)
      → IsUnwritten old new × LeavesOnly old new (IsImage old)
  -- so where the change is refused, or leaves what is kept
  pub unwritten : (kept : Stored) (vs : List Variable) → old.tells → Holds old kept vs
      → IsSome (change.refusal kept vs) ⊎ (change.after kept vs ≡ Some kept)
      → IsUnwritten old new × LeavesOnly old new (IsImage old)
  -- one that is done is durable
  pub made : (kept : Stored) (vs : List Variable) → old.tells → Holds old kept vs
      → end ≡ statuses.Done outcomes.Stored → IsMade (change.after kept vs) new
  -- a power cut at any moment leaves the variables before or after the change
  pub crash : (kept : Stored) (vs : List Variable) → old.tells → Holds old kept vs
      → LeavesEither kept (change.after kept vs) old new
  pub crash_of_synced : (kept : Stored) (vs : List Variable) → old.tells → Holds old kept vs
      → IsSynced old Flash → KeepsEither kept (change.after kept vs) old new

-- ---- the command

abbrev pub set_uses : Device → Use
set_uses ThePlant = Written
set_uses TheConsole = Written
set_uses device = Unused

-- the course, by the variables that the flash keeps
pub data ChangesFlash (change : Change) (v : View) : Course → Type 0 where
  -- a flash without variables is refused as not sound
  none : ((kept : Stored) → ¬ HoldsVariables (v.size Flash) (v.reads Flash) kept)
      → ChangesFlash change v (ends the_plant (statuses.NotSound sounds.NoVars))
  refused : (kept : Stored) (vs : List Variable) (fault : VarFault) (kind : RefusedKind) → Holds v kept vs
      → change.refusal kept vs ≡ Some fault → IsKindOf fault kind
      → ChangesFlash change v (ends the_plant (statuses.Refused kind))
  made : (kept : Stored) (vs : List Variable) → Holds v kept vs → change.refusal kept vs ≡ None
      → ChangesFlash change v (ends the_plant (statuses.Done outcomes.Stored))

-- its own ends; want of memory is none
abbrev pub IsSetEnd : Status → Type 0
IsSetEnd (statuses.Done outcome) = outcome ≡ outcomes.Stored
IsSetEnd (statuses.NotSound kind) = kind ≡ sounds.NoVars
IsSetEnd (statuses.Refused kind) = (fault : VarFault) × IsKindOf fault kind
IsSetEnd status = ⊥

-- by what the plant tells before and after
abbrev pub changes_flash : Change → View → View → Plan
changes_flash change v w = record {
  uses = set_uses;
  memory = false;
  answers = IsSetEnd;
  silent = λ end. true;
  told = λ d end. v.tells;
  comes = λ d c. v.tells × ChangesFlash change v c;
  follows = λ c end. Unit {0};
  leaves = λ old new end. LeavesFlash change v w end;
}

-- ---- faults

-- the status where the variables are not opened, by the fault
abbrev pub unopened_of : VarsFault → Status
unopened_of opening.NoSlot = statuses.NotSound sounds.NoVars
unopened_of (opening.BadLine at) = statuses.NotSound sounds.NoVars
unopened_of opening.Fault = statuses.PlantFault

-- the status where they are not changed, by the fault
abbrev pub unchanged_of : VarFault → Status
unchanged_of faults.BadName = statuses.Refused refusals.BadName
unchanged_of faults.BadText = statuses.Refused refusals.BadText
unchanged_of faults.VarsFull = statuses.Refused refusals.VarsFull
unchanged_of faults.SeqEnd = statuses.Refused refusals.SeqEnd
unchanged_of faults.Fault = statuses.PlantFault
