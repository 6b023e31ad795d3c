-- Why a board is not sound: the first of the tests that fails.
use Rattle.std.specs.Prelude.{◌≡◌, ℕ, IsTrue, Option, Some, None}
use Rattle.bd_dev.specs.declared.plant.Area.{Area}
use Rattle.bd_dev.specs.declared.plant.Area.TheVariants.{Disk, Flash}
use Rattle.bd_dev.specs.Content.{Image}
use Rattle.gpt_copy.specs.declared.table.Entry.{Entry}
use Rattle.gpt_copy.specs.declared.table.Table.{Table}
use Rattle.boot_vars.specs.Vars.{Vars}
use Rattle.storage_model.specs.Disk.{found, table_of}
use Rattle.storage_model.specs.Entries.{IsSane, OnieEntry}
use Rattle.storage_model.specs.Image.{has_image}
use Rattle.slot_model.specs.Slots.{Stored}
use Rattle.storage_model.specs.Soundness.{IsSoundTable}
use Rattle.storage_model.specs.Variables.{HoldsVariables}
use Rattle.soundness.specs.declared.judging.Sound.{Sound}
use Rattle.soundness.specs.declared.judging.SoundKind.{SoundKind}
use Rattle.soundness.specs.declared.judging.SoundKind.TheVariants as kinds
use Rattle.soundness.specs.Onie.{HasNoOnie, HasTwoOnie}

-- a table has not exactly one entry of ONIE's type
abbrev pub IsOnieFault : Table → SoundKind → Type 0
IsOnieFault t kinds.NoTable = ⊥
IsOnieFault t kinds.Entries = ⊥
IsOnieFault t kinds.NoOnie = HasNoOnie t
IsOnieFault t kinds.TwoOnie = HasTwoOnie t
IsOnieFault t kinds.NoImage = ⊥
IsOnieFault t kinds.NoVars = ⊥

-- a table has one entry of ONIE's type, which holds an image
pub record HoldsOnie (disk : ℕ → ℕ) (t : Table) : Type 0 where
  pub index : ℕ
  pub onie : Entry
  pub one : OnieEntry t index onie
  pub image : IsTrue (has_image disk onie)

-- the one entry of ONIE's type holds no image
pub record HasNoImage (disk : ℕ → ℕ) (t : Table) : Type 0 where
  pub index : ℕ
  pub onie : Entry
  pub one : OnieEntry t index onie
  pub no_image : ¬ IsTrue (has_image disk onie)

-- the flash holds no variables
abbrev pub HasNoVariables : ℕ → (ℕ → ℕ) → Type 0
HasNoVariables size flash = (kept : Stored) → ¬ HoldsVariables size flash kept

-- what is wrong with a board of these sizes whose disk has this table
abbrev pub IsTableFault : (Area → ℕ) → Image → Table → SoundKind → Type 0
IsTableFault size c t kinds.NoTable = ⊥
IsTableFault size c t kinds.Entries = ¬ IsSane t
IsTableFault size c t kinds.NoOnie = IsSane t × HasNoOnie t
IsTableFault size c t kinds.TwoOnie = IsSane t × HasTwoOnie t
IsTableFault size c t kinds.NoImage = IsSane t × HasNoImage (c Disk) t
IsTableFault size c t kinds.NoVars = IsSoundTable (c Disk) t × HasNoVariables (size Flash) (c Flash)

-- the same, where its disk may have none
abbrev pub IsFaultOf : (Area → ℕ) → Image → Option Table → SoundKind → Type 0
IsFaultOf size c None kind = kind ≡ kinds.NoTable
IsFaultOf size c (Some t) kind = IsTableFault size c t kind

-- why a board of these sizes is not sound
abbrev pub IsUnsound : (Area → ℕ) → Image → SoundKind → Type 0
IsUnsound size c kind = IsFaultOf size c (table_of (size Disk) (c Disk)) kind

-- the flash holds these variables, or none
abbrev pub MayHold : ℕ → (ℕ → ℕ) → Option Vars → Type 0
MayHold size flash None = HasNoVariables size flash
MayHold size flash (Some vars) = HoldsVariables size flash (record { number = vars.pair.number; content = vars.text })

-- a sound board's table, the copy that it was read from, and its variables
pub record IsJudged (size : Area → ℕ) (c : Image) (s : Sound) : Type 0 where
  pub found : found (size Disk) (c Disk) ≡ Some (record { table = s.table; copy = s.copy })
  pub sound : IsSoundTable (c Disk) s.table
  pub variables : HoldsVariables (size Flash) (c Flash) (record { number = s.vars.pair.number; content = s.vars.text })
