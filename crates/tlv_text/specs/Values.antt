-- Values of the TlvInfo format's fields (ONIE design specification, "Board EEPROM information format").
use Rattle.std.specs.Prelude.{ℕ, ◌≡◌, ◌==◌, Bool, if◌then◌else◌, IsTrue, List, codes, ⊤}
use Rattle.std.specs.Char.{is_ascii_alphabetic, is_ascii_digit}
use Rattle.std.specs.Int.{is_in_range}
use Rattle.std.specs.List.{AllPass, AllZip}
use Rattle.std.specs.Option.{option_map_or}
use Rattle.bd_codes.specs.declared.row.Kind.{Kind}
use Rattle.bd_codes.specs.declared.row.Kind.TheVariants.{Text, Mac, Date, Byte, Word, Letters, Raw}
use Rattle.bd_codes.specs.TlvTable.{row_of}

-- what a value of the code is: bytes with no meaning where no row has the code
abbrev pub kind_of : ℕ → Kind
kind_of code = option_map_or (λ row. row.kind) (row_of code) Raw

-- a printable ASCII character, which the space is too
abbrev pub is_printable : ℕ → Bool
is_printable byte = is_in_range 0x20 0x7E byte

-- a digit stands for a letter, and any other character for itself
abbrev pub stands_for : ℕ → ℕ → Bool
stands_for byte mark = if is_ascii_alphabetic mark then is_ascii_digit byte else byte == mark

-- a date and a time of day, by their places alone (type code 0x25)
abbrev pub IsDate : List ℕ → Type 0
IsDate text = AllZip (λ byte mark. IsTrue (stands_for byte mark)) text (codes "MM/DD/YYYY HH:MM:SS")

-- the values of a kind that a text can spell: those that are no text may be any bytes
abbrev pub HasForm : Kind → List ℕ → Type 0
HasForm Text value = AllPass is_printable value
HasForm Date value = IsDate value
HasForm Letters value = AllPass is_ascii_alphabetic value
HasForm _ value = ⊤

-- how many bytes each value of a kind has, where that is one number
abbrev pub HasWidth : Kind → ℕ → Type 0
HasWidth Mac width = width ≡ 6
HasWidth Byte width = width ≡ 1
HasWidth Word width = width ≡ 2
HasWidth _ width = ⊤
