-- The entries of a partition table (UEFI 2.10, section 5.3.3).
use Rattle.std.specs.Prelude.{◌≡◌, ◌≢◌, ◌⊎◌, ℕ, ◌<◌, ◌≤◌, [], ◌∷◌, replicate, slice_get, Some}
use Rattle.bd_text.specs.declared.guid.Guid.{Guid}
use Rattle.gpt_copy.specs.declared.table.Entry.{Entry}
use Rattle.gpt_copy.specs.declared.table.Table.{Table}

-- the type of an unused entry
abbrev pub unused_type : Guid
unused_type = record { bytes = replicate 16 0 }

-- ONIE's boot type, 7412F7D5-A156-4B13-81DC-867174929325
abbrev pub onie_type : Guid
onie_type = record {
  bytes =
      0xD5 ∷ 0xF7 ∷ 0x12 ∷ 0x74 ∷ 0x56 ∷ 0xA1 ∷ 0x13 ∷ 0x4B ∷ 0x81 ∷ 0xDC ∷ 0x86 ∷ 0x71 ∷ 0x74 ∷ 0x92 ∷ 0x93 ∷ 0x25 ∷ [];
}

-- the table's entry at this place, from 0, is used, and is this
pub record HasEntry (t : Table) (i : ℕ) (e : Entry) : Type 0 where
  pub is : slice_get t.entries i ≡ Some e
  pub used : e.kind ≢ unused_type

-- a sector of an entry
pub record InEntry (e : Entry) (s : ℕ) : Type 0 where
  pub from : e.first ≤ s
  pub until : s ≤ e.last

-- an entry lies in the usable range, with its first sector at most its last
pub record IsWithin (t : Table) (e : Entry) : Type 0 where
  pub from : t.first_usable ≤ e.first
  pub ordered : e.first ≤ e.last
  pub until : e.last ≤ t.last_usable

-- two entries share no sector
abbrev pub AreApart : Entry → Entry → Type 0
AreApart e f = (e.last < f.first) ⊎ (f.last < e.first)

-- the used entries lie in the usable range, share no sector and have different GUIDs
pub record IsSane (t : Table) : Type 0 where
  pub within : (i : ℕ) (e : Entry) → HasEntry t i e → IsWithin t e
  pub apart : (i j : ℕ) (e f : Entry) → HasEntry t i e → HasEntry t j f → i ≢ j → AreApart e f
  pub different : (i j : ℕ) (e f : Entry) → HasEntry t i e → HasEntry t j f → i ≢ j → e.guid ≢ f.guid

-- the entry at this place is of ONIE's type
pub record HasOnie (t : Table) (i : ℕ) (e : Entry) : Type 0 where
  pub has : HasEntry t i e
  pub kind : e.kind ≡ onie_type

-- this is the one entry of ONIE's type
pub record OnieEntry (t : Table) (i : ℕ) (e : Entry) : Type 0 where
  pub has : HasOnie t i e
  pub only : (j : ℕ) (f : Entry) → HasOnie t j f → j ≡ i

-- a used entry with this GUID, of another type than ONIE's
pub record NosEntry (t : Table) (g : Guid) (i : ℕ) (e : Entry) : Type 0 where
  pub has : HasEntry t i e
  pub guid : e.guid ≡ g
  pub other : e.kind ≢ onie_type
