-- The text that says what a board's disk holds and what the board boots.
use Rattle.std.specs.Prelude.{ℕ, ◌+◌, ◌==◌, List, [], ◌∷◌, ◌++◌, map, codes, ◌&&◌, nat_le, if◌then◌else◌}
use Rattle.std.specs.Fmt.{decimal}
use Rattle.std.specs.List.{before_first, concat}
use Rattle.std.specs.Str.{bytes_eq}
use Rattle.bd_mode.specs.Modes.{text_of}
use Rattle.bd_text.specs.Guid.{guid_text}
use Rattle.gpt_copy.specs.declared.table.Entry.{Entry}
use Rattle.gpt_copy.specs.declared.table.Table.{Table}
use Rattle.gpt_copy.specs.declared.table.Which.{Which}
use Rattle.gpt_copy.specs.declared.table.Which.TheVariants.{Primary, Backup}
use Rattle.storage_model.specs.Entries.{unused_type}
use Rattle.soundness.specs.declared.outcome.Boots.{Boots}
use Rattle.soundness.specs.declared.outcome.Boots.TheVariants.{Onie, Nos}

-- a unit of UTF-16, which is `?` where it is not printable ASCII
abbrev pub shown_unit : ℕ → ℕ
shown_unit unit = if nat_le 0x20 unit && nat_le unit 0x7E then unit else 0x3F

-- a name, up to its first zero unit
abbrev pub shown_name : List ℕ → List ℕ
shown_name units = map shown_unit (before_first (λ unit. unit == 0) units)

-- the line of an entry, with its number from 1: its GUID, its type, its first and last sector and its name
abbrev pub entry_line : ℕ → Entry → List ℕ
entry_line number e = concat (
    codes "entry " ∷ decimal number
    ∷ codes " " ∷ guid_text e.guid.bytes
    ∷ codes " " ∷ guid_text e.kind.bytes
    ∷ codes " " ∷ decimal e.first
    ∷ codes " " ∷ decimal e.last
    ∷ codes " " ∷ shown_name e.name
    ∷ codes "\n" ∷ [])

-- the same, where it is used
unfoldable pub used_line : ℕ → Entry → List ℕ
used_line number e = if bytes_eq e.kind.bytes unused_type.bytes then [] else entry_line number e

-- the lines of entries, of which the first has this number
abbrev pub entry_lines : ℕ → List Entry → List ℕ
entry_lines number [] = []
entry_lines number (e ∷ es) = used_line number e ++ entry_lines (number + 1) es

-- which copy of the table counts
abbrev pub table_line : Which → List ℕ
table_line Primary = codes "table primary\n"
table_line Backup = codes "table backup\n"

-- what boots
abbrev pub boots_line : Boots → List ℕ
boots_line (Onie mode) = concat (codes "boots onie " ∷ text_of mode ∷ codes "\n" ∷ [])
boots_line (Nos guid) = concat (codes "boots nos " ∷ guid_text guid.bytes ∷ codes "\n" ∷ [])

-- the whole text
unfoldable pub status_text : Which → Table → Boots → List ℕ
status_text copy table boots = concat (table_line copy ∷ entry_lines 1 table.entries ∷ boots_line boots ∷ [])
