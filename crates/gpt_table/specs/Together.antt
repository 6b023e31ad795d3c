-- A sane table entry by entry: each lies in range and stands apart from those before it.
use Rattle.std.specs.Prelude.{◌≡◌, ◌≢◌, ℕ, List, take, slice_get, Some}
use Rattle.gpt_copy.specs.declared.table.Entry.{Entry}
use Rattle.gpt_copy.specs.declared.table.Table.{Table}
use Rattle.storage_model.specs.Entries.{AreApart, HasEntry, IsWithin, unused_type}

-- two entries share no sector and have different GUIDs
pub record AreTogether (e f : Entry) : Type 0 where
  pub apart : AreApart e f
  pub different : e.guid ≢ f.guid

-- an entry can stand behind these, each of which that is used can stand together with it
abbrev pub StandsAfter : List Entry → Entry → Type 0
StandsAfter before e = (i : ℕ) (f : Entry) → slice_get before i ≡ Some f → f.kind ≢ unused_type → AreTogether f e

-- a used entry lies in the usable range and can stand behind those before it
pub record StandsAt (t : Table) (i : ℕ) (e : Entry) : Type 0 where
  pub within : IsWithin t e
  pub after : StandsAfter (take i t.entries) e

-- the entry at this place does, where it is used
abbrev pub Stands : Table → ℕ → Type 0
Stands t i = (e : Entry) → HasEntry t i e → StandsAt t i e
