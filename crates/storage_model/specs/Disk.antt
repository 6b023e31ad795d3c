-- The partition table of a disk (UEFI 2.10, section 5.3.2): which of its two copies counts.
use Rattle.std.specs.Prelude.{ℕ, ◌-◌, ◌*◌, List, Option, Some, None, option_map, if◌then◌else◌, nat_lt}
use Rattle.bd_dev.specs.Content.{window}
use Rattle.gpt_copy.specs.declared.table.Table.{Table}
use Rattle.gpt_copy.specs.declared.table.Which.{Which}
use Rattle.gpt_copy.specs.declared.table.Which.TheVariants.{Primary, Backup}
use Rattle.gpt_copy.specs.Copy.{reading}

-- the least disk that has room for both copies and a usable sector
abbrev pub least_disk : ℕ
least_disk = 68

-- where the 33 sectors of a copy begin, on a disk of so many sectors: behind the first sector, or the last ones
abbrev pub copy_lba : Which → ℕ → ℕ
copy_lba Primary size = 1
copy_lba Backup size = size - 33

-- the bytes of a copy
abbrev pub copy_bytes : Which → ℕ → (ℕ → ℕ) → List ℕ
copy_bytes which size disk = window disk (512 * copy_lba which size) 16896

-- the table that a copy reads as, or none where it is not readable
abbrev pub copy_of : Which → ℕ → (ℕ → ℕ) → Option Table
copy_of which size disk = reading which (size - 1) (copy_bytes which size disk)

-- a table, and the copy that it was read from
pub record Found : Type 0 where
  pub table : Table
  pub copy : Which

abbrev pub found_in : Which → Option Table → Option Found
found_in which None = None
found_in which (Some table) = Some (record { table = table; copy = which })

-- the first where there is one, else the second
abbrev pub or_else : {X : Type 0} → Option X → Option X → Option X
or_else (Some x) second = Some x
or_else None second = second

-- the primary's table where that copy is readable, else the backup's, on a disk that has room for them
unfoldable pub found : ℕ → (ℕ → ℕ) → Option Found
found size disk =
    if nat_lt size least_disk
    then None
    else or_else (found_in Primary (copy_of Primary size disk)) (found_in Backup (copy_of Backup size disk))

-- the disk's table
abbrev pub table_of : ℕ → (ℕ → ℕ) → Option Table
table_of size disk = option_map (λ f. f.table) (found size disk)
