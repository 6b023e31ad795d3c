-- Images in which all of a board stands, but for some sectors off the copies.
use Rattle.std.proofs.Common.{◌≡◌, ℕ, ◌/◌, List, [], ◌∷◌, Option, Some, None, IfSome, refl, sym, ◌∙◌, ap, subst, arith}
use Rattle.bd_dev.specs.declared.plant.Area.{Area}
use Rattle.bd_dev.specs.declared.plant.Area.TheVariants.{Disk, Flash}
use Rattle.bd_dev.specs.Content.{Image, SameSector}
use Rattle.bd_dev.specs.Plant.{IsImage}
use Rattle.bd_dev.proofs.Joins.{same_sector_trans}
use Rattle.bd_dev.proofs.Windows.{at_byte}
use Rattle.gpt_copy.specs.declared.table.Table.{Table}
use Rattle.storage_model.specs.Variables.{kept_in}
use Rattle.storage_model.specs.Copies.{IsClean, OffCopies, Only, ReadsBoth}
use Rattle.cuts.specs.declared.effect.Effect.TheVariants.{Put, Sync}
use Rattle.cuts.specs.States.{InPut}
use Rattle.cuts.specs.Cuts.{IsSomeCleanCut, MayBeCutAt, stored_of}
use Rattle.cuts.specs.Spans.{HasOnlyPending, Stands, Value, pending_of, state_of}
use Rattle.cuts.proofs.Copying.{both_kept}
use Rattle.cuts.proofs.Reading.{image_off}

-- all stands, but for pending sectors and those of T
pub record IsSteady (v : Value) (T : ℕ → Type 0) (c : Image) : Type 0 where
  pub copies : ReadsBoth (v.view.size Disk) (c Disk) v.table
  pub variables : kept_in (v.view.size Flash) (c Flash) ≡ Some (stored_of (state_of v))
  pub sectors : (q : ℕ) → OffCopies (v.view.size Disk) q → (pending_of v q → ⊥) → (T q → ⊥) → SameSector (state_of v).disk (c Disk) q

-- an area of which all sectors are as they are read
pub whole_area : (z c : ℕ → ℕ) → ((s : ℕ) → SameSector z c s) → c ≡ z
whole_area z c same = λ i k. (at_byte z c k (same (k / 512))) i

-- both copies read as one table, so neither passes for another
pub clean_of : (size : ℕ) (disk : ℕ → ℕ) (t : Table) → ReadsBoth size disk t → IsClean size disk (Only t) (Only t)
clean_of size disk t both = record {
  primary = subst (λ (copy : Option Table). IfSome copy (Only t)) (sym both.primary) refl;
  backup = subst (λ (copy : Option Table). IfSome copy (Only t)) (sym both.backup) refl;
}

module _ (v : Value) (stands : Stands v) (only : HasOnlyPending v) where
  pub steady : (T : ℕ → Type 0) → ((q : ℕ) → T q → OffCopies (v.view.size Disk) q) → (c : Image)
      → ((a : Area) (s : ℕ) → (a ≡ Disk → T s → ⊥) → (v.view.unsynced a s → ⊥) → SameSector (v.view.reads a) (c a) s) → IsSteady v T c
  steady T off c keeps = record {
    copies = both_kept (v.view.size Disk) (v.view.reads Disk) (c Disk) v.table stands.table
        (λ q on. keeps Disk q (λ same t. on (off q t)) (λ un. on (only.copies q un)));
    variables = ap (λ (z : ℕ → ℕ). kept_in (v.view.size Flash) z)
        (whole_area (v.view.reads Flash) (c Flash) (λ s. keeps Flash s (λ same t. cc) (only.flash s))) ∙ stands.variables;
    sectors = λ q free pends out. image_off (v.view.size Disk) v.disk (c Disk) q free
        (same_sector_trans v.disk (v.view.reads Disk) (c Disk) q (only.held q pends) (keeps Disk q (λ same t. out t) (λ un. pends (only.disk q un))));
  }

  pub steady_now : (c : Image) → IsImage v.view c → IsSteady v (λ q. ⊥) c
  steady_now c image = steady (λ q. ⊥) (λ q none. absurd none) c (λ a s out synced. image a s synced)

-- such images are cuts, and clean

pub at_rest : (v : Value) (c : Image) → IsSteady v (λ q. ⊥) c → MayBeCutAt v.view.size (state_of v) (pending_of v) None c
at_rest v c s = record { table = s.copies; variables = s.variables; sectors = λ q lt off pends runs. s.sectors q off pends (λ none. none) }

pub in_sync : (v : Value) (c : Image) → IsSteady v (λ q. ⊥) c → MayBeCutAt v.view.size (state_of v) (pending_of v) (Some Sync) c
in_sync v c s = record { table = s.copies; variables = s.variables; sectors = λ q lt off pends runs. s.sectors q off pends (λ none. none) }

pub in_put : (v : Value) (lba : ℕ) (bytes : List ℕ) (c : Image) → IsSteady v (InPut lba bytes) c → MayBeCutAt v.view.size (state_of v) (pending_of v) (Some (Put lba bytes)) c
in_put v lba bytes c s = record { table = s.copies; variables = s.variables; sectors = λ q lt off pends runs. s.sectors q off pends runs }

pub some_at_rest : (v : Value) (c : Image) → IsSteady v (λ q. ⊥) c → IsSomeCleanCut v.view.size (state_of v) (pending_of v) [] c
some_at_rest v c s = (0, omega arith, at_rest v c s, clean_of (v.view.size Disk) (c Disk) v.table s.copies)

pub some_in_sync : (v : Value) (c : Image) → IsSteady v (λ q. ⊥) c → IsSomeCleanCut v.view.size (state_of v) (pending_of v) (Sync ∷ []) c
some_in_sync v c s = (0, omega arith, in_sync v c s, clean_of (v.view.size Disk) (c Disk) v.table s.copies)

pub some_in_put : (v : Value) (lba : ℕ) (bytes : List ℕ) (c : Image) → IsSteady v (InPut lba bytes) c → IsSomeCleanCut v.view.size (state_of v) (pending_of v) (Put lba bytes ∷ []) c
some_in_put v lba bytes c s = (0, omega arith, in_put v lba bytes c s, clean_of (v.view.size Disk) (c Disk) v.table s.copies)
