-- Where the entries of a table lie, and which entry is which.
use Rattle.std.proofs.Common.{◌≡◌, inl, inr, ℕ, ◌-◌, ◌<◌, slice_get, Some, refl, ◌∙◌, subst, arith}
use Rattle.std.proofs.lemmas.Bool.{cases_lt}
use Rattle.gpt_copy.specs.declared.table.Entry.{Entry}
use Rattle.gpt_copy.specs.declared.table.Table.{Table}
use Rattle.gpt_copy.specs.Copy.{FitsDisk}
use Rattle.storage_model.specs.Entries.{HasEntry, InEntry, IsSane, OnieEntry}
use Rattle.storage_model.specs.Copies.{OffCopies}
use Rattle.cuts.specs.Orderly.{HasOnieAs, IsPlacedAs}

-- a sector of a disk of so many sectors that lies off the copies
pub record IsFree (size q : ℕ) : Type 0 where
  pub within : q < size
  pub off : OffCopies size q

-- the sectors of a used entry do
pub entry_off : (size : ℕ) (t : Table) (i : ℕ) (e : Entry) → FitsDisk (size - 1) t → IsSane t → HasEntry t i e → (q : ℕ) → InEntry e q → IsFree size q
entry_off size t i e fits sane has q inside =
    let within = sane.within i e has in
    record {
      within = omega (arith, within.until, fits.from, fits.ordered, fits.until, inside.until);
      off = inr (omega (arith, within.from, fits.from, inside.from), omega (arith, within.until, fits.from, fits.ordered, fits.until, inside.until));
    }

same_index : (t : Table) (i j : ℕ) (e f : Entry) → HasEntry t i e → HasEntry t j f → i ≡ j → e ≡ f
same_index t i j e f has other index =
    let at : slice_get t.entries j ≡ Some e = subst (λ (k : ℕ). slice_get t.entries k ≡ Some e) index has.is in
    let is : slice_get t.entries j ≡ Some f = other.is in
    cc

-- a sane table has one used entry of a GUID
pub same_guid : (t : Table) (i j : ℕ) (e f : Entry) → IsSane t → HasEntry t i e → HasEntry t j f → e.guid ≡ f.guid → e ≡ f
same_guid t i j e f sane has other same = elim (cases_lt i j) [
  | inl lt ↦ absurd (sane.different i j e f has other (λ is. omega arith) same)
  | inr ge ↦ elim (cases_lt j i) [
    | inl gt ↦ absurd (sane.different i j e f has other (λ is. omega arith) same)
    | inr le ↦ same_index t i j e f has other (omega arith)
  ]
]

-- a table has one entry of ONIE's type
pub same_onie : (t : Table) (i j : ℕ) (e f : Entry) → OnieEntry t i e → OnieEntry t j f → e ≡ f
same_onie t i j e f one other = same_index t i j e f one.has.has other.has.has (other.only i e one.has)

-- places

pub placed_self : (e : Entry) → IsPlacedAs e e
placed_self e = record { guid = refl; first = refl; last = refl }

pub placed_then : (e f g : Entry) → IsPlacedAs e f → IsPlacedAs f g → IsPlacedAs e g
placed_then e f g one two = record { guid = two.guid ∙ one.guid; first = two.first ∙ one.first; last = two.last ∙ one.last }

-- entries of one place have the same sectors
pub placed_in : (e f : Entry) → IsPlacedAs e f → (q : ℕ) → InEntry e q → InEntry f q
placed_in e f placed q inside = record { from = omega (arith, placed.first, inside.from); until = omega (arith, placed.last, inside.until) }

pub onie_self : (t : Table) (i : ℕ) (e : Entry) → OnieEntry t i e → HasOnieAs t e
onie_self t i e one = record { index = i; entry = e; one = one; placed = placed_self e }

pub onie_then : (t : Table) (e f : Entry) → IsPlacedAs e f → HasOnieAs t f → HasOnieAs t e
onie_then t e f placed there = record { index = there.index; entry = there.entry; one = there.one; placed = placed_then e f there.entry placed there.placed }
