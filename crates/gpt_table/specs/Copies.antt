-- The order in which a replacement writes the table's two copies, and what one that is written reads as.
use Rattle.std.specs.Prelude.{◌≡◌, ◌⊎◌, ℕ, Some}
use Rattle.bd_dev.specs.Content.{Image}
use Rattle.bd_dev.specs.declared.plant.Area.TheVariants.{Disk}
use Rattle.gpt_copy.specs.declared.table.Table.{Table}
use Rattle.gpt_copy.specs.declared.table.Which.{Which}
use Rattle.gpt_copy.specs.declared.table.Which.TheVariants.{Primary, Backup}
use Rattle.bd_dev.specs.Touching.{AgreesOutside}
use Rattle.storage_model.specs.Disk.{copy_lba, copy_of}

-- while the table is replaced: the backup is what it was, or the primary is the new table already
abbrev pub IsPrimaryFirst : ℕ → Table → Table → Image → Type 0
IsPrimaryFirst size old new c = (copy_of Backup size (c Disk) ≡ Some old) ⊎ (copy_of Primary size (c Disk) ≡ Some new)

-- this copy was written over z, and reads as the table
pub record IsCopyWritten (which : Which) (size : ℕ) (table : Table) (z c : Image) : Type 0 where
  pub outside : AgreesOutside Disk (copy_lba which size) 33 z c
  pub inside : copy_of which size (c Disk) ≡ Some table
