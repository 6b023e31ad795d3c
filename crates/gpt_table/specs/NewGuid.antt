-- The GUID that a new entry gets: the disk's, with the least number that nothing has yet.
use Rattle.std.specs.Prelude.{◌≡◌, ◌⊎◌, ℕ, ◌<◌, ◌++◌, take, Option, Some}
use Rattle.byteorder.specs.Endian.{big_bytes}
use Rattle.bd_text.specs.declared.guid.Guid.{Guid}
use Rattle.gpt_copy.specs.declared.table.Table.{Table}
use Rattle.gpt_table.specs.Edits.{HasGuidAt}

-- a GUID with a number in place of its last four bytes, the highest first
unfoldable pub numbered : Guid → ℕ → Guid
numbered g n = record { bytes = take 12 g.bytes ++ big_bytes 4 n }

-- a used entry has the GUID, or it is the named one
abbrev pub IsTaken : Table → Option Guid → Guid → Type 0
IsTaken t named g = (named ≡ Some g) ⊎ ((i : ℕ) × HasGuidAt t g i)

-- the disk's GUID with the least positive number that makes it one that is not taken
pub record IsNew (t : Table) (named : Option Guid) (g : Guid) : Type 0 where
  pub number : ℕ
  pub positive : 0 < number
  pub is : g ≡ numbered t.disk number
  pub free : ¬ IsTaken t named g
  pub least : (n : ℕ) → 0 < n → n < number → IsTaken t named (numbered t.disk n)
