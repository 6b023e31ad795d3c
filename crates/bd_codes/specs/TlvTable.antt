-- The codes of the TlvInfo format, as the ONIE design specification lists them under "Board EEPROM information format".
use Rattle.std.specs.Prelude.{ℕ, ◌==◌, Bool, true, not, ◌&&◌, List, [], ◌∷◌, Option, is_some}
use Rattle.std.specs.Option.{option_map_or}
use Rattle.bd_codes.specs.declared.row.Row.{Row}
use Rattle.bd_codes.specs.declared.row.Kind.{Kind}
use Rattle.bd_codes.specs.declared.row.Kind.TheVariants.{Text, Mac, Date, Byte, Word, Letters, Raw, Sum}
use Rattle.bd_codes.specs.Codes.{row_at}
use Rattle.bd_codes.specs.Row.{row_allows}

-- a row: the code, what its value is, and the least and the greatest length of one, in bytes
abbrev row : ℕ → Kind → ℕ → ℕ → Row
row code kind least greatest = record { code = code; kind = kind; least = least; greatest = greatest }

-- the rows of the table
unfoldable pub tlv_rows : List Row
tlv_rows =
    -- product name
    row 0x21 Text 0 255
    -- part number
    ∷ row 0x22 Text 0 255
    -- serial number
    ∷ row 0x23 Text 0 255
    -- first MAC address
    ∷ row 0x24 Mac 6 6
    -- manufacture date
    ∷ row 0x25 Date 19 19
    -- device version
    ∷ row 0x26 Byte 1 1
    -- label revision
    ∷ row 0x27 Text 0 255
    -- platform name
    ∷ row 0x28 Text 0 255
    -- ONIE version
    ∷ row 0x29 Text 0 255
    -- number of MAC addresses
    ∷ row 0x2a Word 2 2
    -- manufacturer
    ∷ row 0x2b Text 0 255
    -- country code
    ∷ row 0x2c Letters 2 2
    -- vendor name
    ∷ row 0x2d Text 0 255
    -- diag version
    ∷ row 0x2e Text 0 255
    -- service tag
    ∷ row 0x2f Text 0 255
    -- vendor extension
    ∷ row 0xfd Raw 0 255
    -- CRC-32
    ∷ row 0xfe Sum 4 4
    ∷ []

-- the row of a code
abbrev pub row_of : ℕ → Option Row
row_of code = row_at tlv_rows code

-- a field of this code may have a value of this length: one of a code with no row may have any
abbrev pub allows : ℕ → ℕ → Bool
allows code length = option_map_or (λ row. row_allows row length) (row_of code) true

-- a field of this code may stand once at most: each code that has a row, but for the vendor extension's
abbrev pub is_single : ℕ → Bool
is_single code = is_some (row_of code) && not (code == 0xfd)
