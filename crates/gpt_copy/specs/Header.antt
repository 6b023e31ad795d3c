-- The header of a GUID partition table (UEFI 2.10, section 5.3.2), row by row.
use Rattle.std.specs.Prelude.{ℕ, ◌-◌, ◌==◌, List, ◌∷◌, ◌++◌, take, drop, codes, Bool, ◌&&◌, nat_le}
use Rattle.std.specs.Str.{bytes_eq}
use Rattle.bd_bytes.specs.Crc.{crc32_of}
use Rattle.gpt_copy.specs.declared.table.Which.{Which}
use Rattle.gpt_copy.specs.declared.table.Which.TheVariants.{Primary, Backup}
use Rattle.gpt_copy.specs.Rows.{number_at}

-- the rows hold that are the same in every header: signature, revision, size, reserved, count and size of the entries
abbrev pub has_form : List ℕ → Bool
has_form header =
    bytes_eq (take 8 header) (codes "EFI PART")
    && (number_at 8 4 header == 0x00010000)
    && (number_at 12 4 header == 92)
    && (number_at 20 4 header == 0)
    && (number_at 80 4 header == 128)
    && (number_at 84 4 header == 128)

-- the usable sectors lie between the two copies
abbrev pub has_usable : ℕ → List ℕ → Bool
has_usable last header =
    nat_le 34 (number_at 40 8 header)
    && nat_le (number_at 40 8 header) (number_at 48 8 header)
    && nat_le (number_at 48 8 header) (last - 33)

-- where the header itself stands, and where the other copy's: in sector 1 and the last
abbrev pub own_lba : Which → ℕ → ℕ
own_lba Primary last = 1
own_lba Backup last = last

abbrev pub alternate_lba : Which → ℕ → ℕ
alternate_lba Primary last = last
alternate_lba Backup last = 1

-- where the entries stand: behind the primary header, or in the 32 sectors before the backup header
abbrev pub entries_lba : Which → ℕ → ℕ
entries_lba Primary last = 2
entries_lba Backup last = last - 32

-- the rows hold that say where the parts of the copy stand
abbrev pub has_parts : Which → ℕ → List ℕ → Bool
has_parts which last header =
    (number_at 24 8 header == own_lba which last)
    && (number_at 32 8 header == alternate_lba which last)
    && (number_at 72 8 header == entries_lba which last)

-- all places are right, on a disk whose last sector has this address
abbrev pub has_places : Which → ℕ → List ℕ → Bool
has_places which last header = has_usable last header && has_parts which last header

-- the header's 92 bytes with zero in place of its checksum
abbrev pub without_checksum : List ℕ → List ℕ
without_checksum header = take 16 header ++ 0 ∷ 0 ∷ 0 ∷ 0 ∷ take 72 (drop 20 header)

-- the checksums of the header and of the entries hold
abbrev pub has_checksums : List ℕ → List ℕ → Bool
has_checksums header entries =
    (number_at 16 4 header == crc32_of (without_checksum header))
    && (number_at 88 4 header == crc32_of entries)

-- all rows but the checksums hold
abbrev pub has_layout : Which → ℕ → List ℕ → Bool
has_layout which last header = has_form header && has_places which last header

-- all rows hold
abbrev pub has_rows : Which → ℕ → List ℕ → List ℕ → Bool
has_rows which last header entries = has_layout which last header && has_checksums header entries
