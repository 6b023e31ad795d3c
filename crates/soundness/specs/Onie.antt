-- Which entries are of ONIE's type.
use Rattle.std.specs.Prelude.{◌≡◌, ◌≢◌, ℕ, ◌-◌, ◌<◌, ◌≤◌, List, Some, slice_get}
use Rattle.gpt_copy.specs.declared.table.Entry.{Entry}
use Rattle.gpt_copy.specs.declared.table.Table.{Table}
use Rattle.storage_model.specs.Entries.{HasOnie, OnieEntry, onie_type}

-- no entry at these places is of ONIE's type
abbrev pub NoneWithin : List Entry → ℕ → ℕ → Type 0
NoneWithin entries low high = (i : ℕ) (e : Entry) → low ≤ i → i < high → slice_get entries i ≡ Some e → e.kind ≢ onie_type

-- the entry at this place is the first of ONIE's type from there on
pub record IsNextOnie (entries : List Entry) (from place : ℕ) : Type 0 where
  pub entry : Entry
  pub is : slice_get entries place ≡ Some entry
  pub kind : entry.kind ≡ onie_type
  pub behind : from ≤ place
  pub none_before : NoneWithin entries from place

-- no entry of the table is of ONIE's type
abbrev pub HasNoOnie : Table → Type 0
HasNoOnie t = (i : ℕ) (e : Entry) → ¬ HasOnie t i e

-- two entries of the table are
pub record HasTwoOnie (t : Table) : Type 0 where
  pub first : ℕ
  pub second : ℕ
  pub one : Entry
  pub other : Entry
  pub has_one : HasOnie t first one
  pub has_other : HasOnie t second other
  pub different : first ≢ second

-- the one entry of ONIE's type has this number, from 1
pub record IsOnieNumber (t : Table) (number : ℕ) : Type 0 where
  pub from : 0 < number
  pub entry : Entry
  pub one : OnieEntry t (number - 1) entry
