-- What stands at an offset.
use Rattle.std.specs.Prelude.{ℕ, List, take, drop}
use Rattle.byteorder.specs.Endian.{little_number}
use Rattle.bd_text.specs.declared.guid.Guid.{Guid}

-- the number of so many bytes, the lowest first
abbrev pub number_at : ℕ → ℕ → List ℕ → ℕ
number_at offset size bytes = little_number size (drop offset bytes)

-- the GUID as EFI keeps it
abbrev pub guid_at : ℕ → List ℕ → Guid
guid_at offset bytes = record { bytes = take 16 (drop offset bytes) }
