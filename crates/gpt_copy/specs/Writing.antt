-- The bytes of a table's copy as they are written: the one spelling of each table.
use Rattle.std.specs.Prelude.{ℕ, List, ◌++◌, codes, replicate}
use Rattle.std.specs.List.{flat_map}
use Rattle.byteorder.specs.Endian.{little_bytes}
use Rattle.bd_bytes.specs.Crc.{crc32_of}
use Rattle.gpt_copy.specs.declared.table.Entry.{Entry}
use Rattle.gpt_copy.specs.declared.table.Table.{Table}
use Rattle.gpt_copy.specs.declared.table.Which.{Which}
use Rattle.gpt_copy.specs.declared.table.Which.TheVariants.{Primary, Backup}
use Rattle.gpt_copy.specs.Header.{alternate_lba, entries_lba, own_lba}

-- a number in four and in eight bytes, the lowest first
unfoldable pub bytes_4 : ℕ → List ℕ
bytes_4 n = little_bytes 4 n

unfoldable pub bytes_8 : ℕ → List ℕ
bytes_8 n = little_bytes 8 n

-- a name: two bytes a unit
unfoldable pub name_spelling : List ℕ → List ℕ
name_spelling units = flat_map (little_bytes 2) units

-- an entry: its type, its GUID, its first and last sector, its attributes and its name
unfoldable pub entry_spelling : Entry → List ℕ
entry_spelling e =
    e.kind.bytes ++ e.guid.bytes ++ bytes_8 e.first ++ bytes_8 e.last ++ bytes_8 e.attributes ++ name_spelling e.name

-- all entries in their order
unfoldable pub entries_spelling : List Entry → List ℕ
entries_spelling es = flat_map entry_spelling es

-- the header's rows: the first is the signature
abbrev pub signature : List ℕ
signature = codes "EFI PART"

-- the header's 92 bytes, with such checksums of its own and of the entries
unfoldable pub rows_spelling : Table → Which → ℕ → ℕ → ℕ → List ℕ
rows_spelling t which last own checksum =
    signature
    ++ bytes_4 0x00010000
    ++ bytes_4 92
    ++ bytes_4 own
    ++ bytes_4 0
    ++ bytes_8 (own_lba which last)
    ++ bytes_8 (alternate_lba which last)
    ++ bytes_8 t.first_usable
    ++ bytes_8 t.last_usable
    ++ t.disk.bytes
    ++ bytes_8 (entries_lba which last)
    ++ bytes_4 128
    ++ bytes_4 128
    ++ bytes_4 checksum

-- the header's sector: its own checksum is that of its rows with zero in its place, and behind them are zeros
unfoldable pub sector_spelling : Table → Which → ℕ → ℕ → List ℕ
sector_spelling t which last checksum =
    rows_spelling t which last (crc32_of (rows_spelling t which last 0 checksum)) checksum ++ replicate 420 0

-- a copy: the header's sector first in the primary, last in the backup
unfoldable pub copy_spelling : Table → Which → ℕ → List ℕ
copy_spelling t Primary last =
    sector_spelling t Primary last (crc32_of (entries_spelling t.entries)) ++ entries_spelling t.entries
copy_spelling t Backup last =
    entries_spelling t.entries ++ sector_spelling t Backup last (crc32_of (entries_spelling t.entries))
