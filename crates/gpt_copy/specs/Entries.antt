-- Entries of a GUID partition table (UEFI 2.10, section 5.3.3).
use Rattle.std.specs.Prelude.{ℕ, zero, suc, List, [], ◌∷◌, take, drop}
use Rattle.byteorder.specs.Endian.{little_number}
use Rattle.gpt_copy.specs.declared.table.Entry.{Entry}
use Rattle.gpt_copy.specs.Rows.{guid_at, number_at}

-- the first n parts of this size, each as f reads it
unfoldable pub parts : {X : Type 0} → ℕ → (List ℕ → X) → ℕ → List ℕ → List X
parts size f zero bytes = []
parts size f (suc n) bytes = f (take size bytes) ∷ parts size f n (drop size bytes)

-- the units of a name: numbers of two bytes each
abbrev pub units_of : List ℕ → List ℕ
units_of bytes = parts 2 (little_number 2) 36 bytes

-- an entry, by the offsets of its rows
unfoldable pub entry_of : List ℕ → Entry
entry_of bytes = record {
  kind = guid_at 0 bytes;
  guid = guid_at 16 bytes;
  first = number_at 32 8 bytes;
  last = number_at 40 8 bytes;
  attributes = number_at 48 8 bytes;
  name = units_of (take 72 (drop 56 bytes));
}

-- the entries: 128 of 128 bytes
abbrev pub entries_of : List ℕ → List Entry
entries_of bytes = parts 128 entry_of 128 bytes
