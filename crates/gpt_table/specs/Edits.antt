-- Changes of a table's entries, and why they are refused. Entries are numbered from 1.
use Rattle.std.specs.Prelude.{◌≡◌, ◌≢◌, ◌⊎◌, ℕ, ◌-◌, ◌<◌, length, replicate, slice_set}
use Rattle.bd_text.specs.declared.guid.Guid.{Guid}
use Rattle.gpt_copy.specs.declared.table.Entry.{Entry}
use Rattle.gpt_copy.specs.declared.table.Table.{Table}
use Rattle.storage_model.specs.Entries.{AreApart, HasEntry, IsWithin, unused_type}
use Rattle.gpt_table.specs.declared.edits.EditFault.{EditFault}
use Rattle.gpt_table.specs.declared.edits.EditFault.TheVariants.{GuidUsed, NoEntry, NumberUsed, Overlap, Range, TableFull}

-- the table with this entry at a place
abbrev pub with_entry : Table → ℕ → Entry → Table
with_entry t i e = record t { entries = slice_set t.entries i e }

-- an entry whose bytes are all zero
abbrev pub unused_entry : Entry
unused_entry = record { kind = unused_type; guid = unused_type; first = 0; last = 0; attributes = 0; name = replicate 36 0 }

-- some used entry stands at this place, from 0
abbrev pub IsUsed : Table → ℕ → Type 0
IsUsed t i = (e : Entry) × HasEntry t i e

-- the place is one of the table's, and its entry is not used
pub record IsUnused (t : Table) (i : ℕ) : Type 0 where
  pub within : i < length t.entries
  pub free : ¬ IsUsed t i

-- some used entry has this number, from 1
pub record IsNumber (t : Table) (number : ℕ) : Type 0 where
  pub from : 0 < number
  pub used : IsUsed t (number - 1)

-- the place of an addition: that of the number, or for 0 the least one, where the entry is unused
pub record TakesPlace (t : Table) (number i : ℕ) : Type 0 where
  pub unused : IsUnused t i
  pub asked : number ≢ 0 → number - 1 ≡ i
  pub least : number ≡ 0 → (j : ℕ) → j < i → ¬ IsUnused t j

-- a used entry shares a sector with this one
abbrev pub Overlaps : Table → Entry → Type 0
Overlaps t e = (i : ℕ) × (f : Entry) × HasEntry t i f × (¬ AreApart f e)

-- the entry at a place is used, and has the GUID
abbrev pub HasGuidAt : Table → Guid → ℕ → Type 0
HasGuidAt t g i = (f : Entry) × HasEntry t i f × (f.guid ≡ g)

-- a used entry at another place has the GUID
abbrev pub HasGuid : Table → Guid → ℕ → Type 0
HasGuid t g own = (i : ℕ) × ((i ≢ own) × HasGuidAt t g i)

-- why an addition has no place: no entry is unused, or not that of the number
abbrev pub RefusesPlace : Table → ℕ → EditFault → Type 0
RefusesPlace t number TableFull = (number ≡ 0) × ((i : ℕ) → ¬ IsUnused t i)
RefusesPlace t number NumberUsed = (number ≢ 0) × (¬ IsUnused t (number - 1))
RefusesPlace t number _ = ⊥

-- the entry can stand at a place, whatever is there
pub record FitsAt (t : Table) (own : ℕ) (e : Entry) : Type 0 where
  pub within : IsWithin t e
  pub apart : ¬ Overlaps t e
  pub different : ¬ HasGuid t e.guid own

-- why it can't: the first reason that applies
abbrev pub RefusesEntry : Table → ℕ → Entry → EditFault → Type 0
RefusesEntry t own e Range = ¬ IsWithin t e
RefusesEntry t own e Overlap = IsWithin t e × Overlaps t e
RefusesEntry t own e GuidUsed = IsWithin t e × (¬ Overlaps t e) × HasGuid t e.guid own
RefusesEntry t own e _ = ⊥

-- why an addition is refused: it has no place, or the entry can't stand there
abbrev pub RefusesAddition : Table → ℕ → Entry → EditFault → Type 0
RefusesAddition t number e fault =
    RefusesPlace t number fault ⊎ ((i : ℕ) × TakesPlace t number i × RefusesEntry t i e fault)

-- why a change of the entry of a number is refused
abbrev pub RefusesChange : Table → ℕ → EditFault → Type 0
RefusesChange t number NoEntry = ¬ IsNumber t number
RefusesChange t number _ = ⊥

-- why a change of its GUID is refused
abbrev pub RefusesGuid : Table → ℕ → Guid → EditFault → Type 0
RefusesGuid t number g GuidUsed = IsNumber t number × HasGuid t g (number - 1)
RefusesGuid t number g fault = RefusesChange t number fault

-- the entry of a number is changed by f, and all else is as it was
pub record Changes (t : Table) (number : ℕ) (f : Entry → Entry) (after : Table) : Type 0 where
  pub from : 0 < number
  pub entry : Entry
  pub has : HasEntry t (number - 1) entry
  pub is : after ≡ with_entry t (number - 1) (f entry)

-- the entry is added at the place of its number, which is answered, and all else is as it was
pub record Adds (t : Table) (number : ℕ) (e : Entry) (answer : ℕ) (after : Table) : Type 0 where
  pub from : 0 < answer
  pub place : TakesPlace t number (answer - 1)
  pub is : after ≡ with_entry t (answer - 1) e

-- a table without used entries, of the same disk with the same usable range
abbrev pub emptied : Table → Table
emptied t = record t { entries = replicate 128 unused_entry }

-- the entry of a number stands alone, at its place, and nothing else has changed
pub record KeepsAlone (t : Table) (number : ℕ) (after : Table) : Type 0 where
  pub from : 0 < number
  pub entry : Entry
  pub has : HasEntry t (number - 1) entry
  pub is : after ≡ with_entry (emptied t) (number - 1) entry
