-- Which disks are sound: one that boots ONIE, or a system that ONIE installed.
use Rattle.std.specs.Prelude.{◌≡◌, ℕ, IsTrue, Some}
use Rattle.bd_dev.specs.declared.plant.Area.{Area}
use Rattle.bd_dev.specs.declared.plant.Area.TheVariants.{Disk, Flash}
use Rattle.bd_dev.specs.Content.{Image}
use Rattle.gpt_copy.specs.declared.table.Entry.{Entry}
use Rattle.gpt_copy.specs.declared.table.Table.{Table}
use Rattle.storage_model.specs.Disk.{table_of}
use Rattle.storage_model.specs.Entries.{IsSane, OnieEntry}
use Rattle.storage_model.specs.Image.{has_image}
use Rattle.slot_model.specs.Slots.{Stored}
use Rattle.storage_model.specs.Variables.{HoldsVariables}

-- a sane table, of which exactly one entry is of ONIE's type, and that one holds an image
pub record IsSoundTable (disk : ℕ → ℕ) (t : Table) : Type 0 where
  pub sane : IsSane t
  pub index : ℕ
  pub onie : Entry
  pub one : OnieEntry t index onie
  pub image : IsTrue (has_image disk onie)

-- the disk is sound, and this is its table
pub record IsSoundDisk (size : ℕ) (disk : ℕ → ℕ) (t : Table) : Type 0 where
  pub table : table_of size disk ≡ Some t
  pub sound : IsSoundTable disk t

-- A board of these sizes is sound: its disk is, and its flash holds variables.
pub record IsSoundBoard (size : Area → ℕ) (c : Image) : Type 0 where
  pub table : Table
  pub disk : IsSoundDisk (size Disk) (c Disk) table
  pub kept : Stored
  pub variables : HoldsVariables (size Flash) (c Flash) kept
