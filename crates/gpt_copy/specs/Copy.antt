-- A copy of a GUID partition table, whose 33 sectors are taken in order of their addresses.
use Rattle.std.specs.Prelude.{ℕ, ◌+◌, ◌≤◌, List, take, drop, Bool, if◌then◌else◌, Option, Some, None}
use Rattle.gpt_copy.specs.declared.table.Table.{Table}
use Rattle.gpt_copy.specs.declared.table.Which.{Which}
use Rattle.gpt_copy.specs.declared.table.Which.TheVariants.{Primary, Backup}
use Rattle.gpt_copy.specs.Entries.{entries_of}
use Rattle.gpt_copy.specs.Header.{has_rows}
use Rattle.gpt_copy.specs.Rows.{guid_at, number_at}

-- the header's sector: the first of the primary copy, the last of the backup
abbrev pub header_of : Which → List ℕ → List ℕ
header_of Primary bytes = take 512 bytes
header_of Backup bytes = drop 16384 bytes

-- the other 32 sectors
abbrev pub entry_bytes : Which → List ℕ → List ℕ
entry_bytes Primary bytes = drop 512 bytes
entry_bytes Backup bytes = take 16384 bytes

-- the table of a header and of entries
unfoldable pub table_from : List ℕ → List ℕ → Table
table_from header entries = record {
  disk = guid_at 56 header;
  first_usable = number_at 40 8 header;
  last_usable = number_at 48 8 header;
  entries = entries_of entries;
}

-- all rows of the header hold, on a disk whose last sector has this address
abbrev pub is_readable : Which → ℕ → List ℕ → Bool
is_readable which last bytes = has_rows which last (header_of which bytes) (entry_bytes which bytes)

-- the table that the bytes hold, or none where a row of the header does not hold
unfoldable pub reading : Which → ℕ → List ℕ → Option Table
reading which last bytes =
    if is_readable which last bytes
    then Some (table_from (header_of which bytes) (entry_bytes which bytes))
    else None

-- the table's usable range lies between the two copies, on a disk whose last sector has this address
pub record FitsDisk (last : ℕ) (t : Table) : Type 0 where
  pub from : 34 ≤ t.first_usable
  pub ordered : t.first_usable ≤ t.last_usable
  pub until : t.last_usable + 33 ≤ last
