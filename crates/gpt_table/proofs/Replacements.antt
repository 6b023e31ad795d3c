-- One table in place of another: the primary first, and then the backup.
use Rattle.std.proofs.Common.{◌≡◌, ◌⊎◌, inl, inr, ⊎_elim, ℕ, ◌-◌, ◌≤◌, Option, Some, None, IfSome, refl, sym, subst, ◌∙◌, ap, arith}
use Rattle.bd_dev.specs.declared.plant.Area.TheVariants.{Disk}
use Rattle.bd_dev.specs.Content.{Image}
use Rattle.bd_dev.specs.Plant.{View, IsSynced}
use Rattle.storage_model.specs.Copies.{AreCopiesSynced, IsCleanBetween, IsEitherTable, OffCopies, OneOf, ReadsBoth, TouchesCopies}
use Rattle.gpt_copy.specs.declared.table.Table.{Table}
use Rattle.gpt_copy.specs.declared.table.Which.{Which}
use Rattle.gpt_copy.specs.declared.table.Which.TheVariants.{Primary, Backup}
use Rattle.gpt_copy.specs.Copy.{FitsDisk}
use Rattle.bd_dev.specs.Runs.{LeavesOnly, ReadsOnly}
use Rattle.bd_dev.specs.Touching.{Touches}
use Rattle.bd_dev.proofs.Joins.{leaves_then, reads_then}
use Rattle.bd_dev.proofs.Touch.{leaves_weaker, reads_weaker}
use Rattle.storage_model.specs.Disk.{copy_lba, copy_of, table_of}
use Rattle.gpt_table.specs.Copies.{IsCopyWritten, IsPrimaryFirst}
use Rattle.gpt_table.proofs.CopyRuns.{copies_then, other_agrees, other_stands, touches_copies}
use Rattle.gpt_table.proofs.Finding.{table_backup, table_primary}

-- what is read while the table is replaced
abbrev IsReplaced : ℕ → Table → Table → Image → Type 0
IsReplaced size before t c = IsCleanBetween size before t c × IsEitherTable size before t c

-- A run while the table is replaced.
pub record Replaces (size : ℕ) (before t : Table) (u v : View) : Type 0 where
  pub crash : LeavesOnly u v (λ c. IsCleanBetween size before t c → IsEitherTable size before t c)
  pub between : ReadsOnly u v (IsReplaced size before t)
  pub ordered : LeavesOnly u v (IsPrimaryFirst size before t)

-- what a write of a copy ensures of the view
pub record Writes (which : Which) (size : ℕ) (t : Table) (u v : View) : Type 0 where
  pub touches : Touches Disk (copy_lba which size) 33 u v
  pub between : u.tells → ReadsOnly u v (λ c. (c ≡ u.reads) ⊎ IsCopyWritten which size t u.reads c)

-- a table fits only where both copies do
pub fits_large : (size : ℕ) (t : Table) → FitsDisk (size - 1) t → 68 ≤ size
fits_large size t fits = let from = fits.from in let ordered = fits.ordered in let until = fits.until in omega (arith, from, ordered, until)

module _ (size : ℕ) (before t : Table) (large : 68 ≤ size) where
  -- the table is one of both, where the backup stands
  either : (z : ℕ → ℕ) (p : Option Table) → copy_of Primary size z ≡ p → IfSome p (OneOf before t) → copy_of Backup size z ≡ Some before → (table_of size z ≡ Some before) ⊎ (table_of size z ≡ Some t)
  either z None none clean b = inl (table_backup size z before large none b)
  either z (Some x) is (inl old) b = inl (table_primary size z before large (is ∙ ap (λ (y : Table). Some y) old))
  either z (Some x) is (inr new) b = inr (table_primary size z t large (is ∙ ap (λ (y : Table). Some y) new))

  -- what is read where both copies are readable
  read_as : (c : Image) (a b : Table) → copy_of Primary size (c Disk) ≡ Some a → copy_of Backup size (c Disk) ≡ Some b → OneOf before t a → OneOf before t b → IsReplaced size before t c
  read_as c a b p q in_a in_b = (
    record { primary = subst (λ (o : Option Table). IfSome o (OneOf before t)) (sym p) in_a; backup = subst (λ (o : Option Table). IfSome o (OneOf before t)) (sym q) in_b },
    ⊎_elim (λ old. inl (table_primary size (c Disk) before large (p ∙ ap (λ (y : Table). Some y) old))) (λ new. inr (table_primary size (c Disk) t large (p ∙ ap (λ (y : Table). Some y) new))) in_a,
  )

  -- while the primary is written
  pub first_replaces : (u v : View) → u.tells → ((s : ℕ) → u.unsynced Disk s → OffCopies size s) → ReadsBoth size (u.reads Disk) before → Writes Primary size t u v → Replaces size before t u v
  first_replaces u v tells synced is writes = record {
    crash = leaves_weaker u v _ _ (writes.touches.told tells).crash
        (λ c keeps clean. either (c Disk) (copy_of Primary size (c Disk)) refl clean.primary (other_stands Primary size large u c synced keeps ∙ is.backup));
    between = reads_weaker u v _ _ (writes.between tells) (λ c. ⊎_elim
        (λ same. subst (IsReplaced size before t) (sym same) (read_as u.reads before before is.primary is.backup (inl refl) (inl refl)))
        (λ wrote. read_as c t before wrote.inside (other_agrees Primary size large u.reads c wrote.outside ∙ is.backup) (inr refl) (inl refl)));
    ordered = leaves_weaker u v _ _ (writes.touches.told tells).crash (λ c keeps. inl (other_stands Primary size large u c synced keeps ∙ is.backup));
  }

  -- while the backup is written
  pub second_replaces : (v w : View) → v.tells → IsSynced v Disk → copy_of Primary size (v.reads Disk) ≡ Some t → copy_of Backup size (v.reads Disk) ≡ Some before → Writes Backup size t v w → Replaces size before t v w
  second_replaces v w tells synced p b writes = record {
    crash = leaves_weaker v w _ _ (writes.touches.told tells).crash
        (λ c keeps clean. inr (table_primary size (c Disk) t large (other_stands Backup size large v c (λ s un. absurd (synced s un)) keeps ∙ p)));
    between = reads_weaker v w _ _ (writes.between tells) (λ c. ⊎_elim
        (λ same. subst (IsReplaced size before t) (sym same) (read_as v.reads t before p b (inr refl) (inl refl)))
        (λ wrote. read_as c t t (other_agrees Backup size large v.reads c wrote.outside ∙ p) wrote.inside (inr refl) (inr refl)));
    ordered = leaves_weaker v w _ _ (writes.touches.told tells).crash (λ c keeps. inr (other_stands Backup size large v c (λ s un. absurd (synced s un)) keeps ∙ p));
  }

  pub replaces_then : (u v w : View) → Replaces size before t u v → Replaces size before t v w → Replaces size before t u w
  replaces_then u v w first second = record {
    crash = leaves_then u v w _ _ first.crash second.crash (λ c is. is);
    between = reads_then u v w _ _ first.between second.between (λ c is. is);
    ordered = leaves_then u v w _ _ first.ordered second.ordered (λ c is. is);
  }

-- the primary is written over u, which leaves v
module _ (size : ℕ) (t : Table) (u v : View) (is : size ≡ u.size Disk) (fits : FitsDisk (u.size Disk - 1) t) (first : Writes Primary size t u v) where
  large : 68 ≤ size
  large = let h = fits_large (u.size Disk) t fits in omega (arith, is, h)

  pub one_written : u.tells → AreCopiesSynced u → (before : Table) → ReadsBoth (u.size Disk) (u.reads Disk) before → Replaces (u.size Disk) before t u v
  one_written tells copies before both = subst (λ (n : ℕ). Replaces n before t u v) is (first_replaces size before t large u v tells
      (λ s un. subst (λ (n : ℕ). OffCopies n s) (sym is) (copies s un)) (subst (λ (n : ℕ). ReadsBoth n (u.reads Disk) before) (sym is) both) first)

  -- and then the backup, which leaves w
  module _ (w : View) (second : Writes Backup size t v w) where
    pub both_written : u.tells → AreCopiesSynced u → IsSynced v Disk → copy_of Primary size (v.reads Disk) ≡ Some t → (before : Table) → ReadsBoth (u.size Disk) (u.reads Disk) before → Replaces (u.size Disk) before t u w
    both_written tells copies synced p before both =
        let here = subst (λ (n : ℕ). ReadsBoth n (u.reads Disk) before) (sym is) both in
        subst (λ (n : ℕ). Replaces n before t u w) is (replaces_then size before t large u v w
        (first_replaces size before t large u v tells (λ s un. subst (λ (n : ℕ). OffCopies n s) (sym is) (copies s un)) here first)
        (second_replaces size before t large v w (first.touches.continues.still_tells tells) synced p
        (other_agrees Primary size large u.reads v.reads (first.touches.told tells).reads ∙ here.backup) second))

    pub both_touch : TouchesCopies u w
    both_touch = copies_then u v w (touches_copies Primary size u v is large first.touches) (touches_copies Backup size v w (is ∙ sym (first.touches.continues.size Disk)) large second.touches)

    pub both_read : v.tells → copy_of Primary size (v.reads Disk) ≡ Some t → copy_of Backup size (w.reads Disk) ≡ Some t → ReadsBoth (u.size Disk) (w.reads Disk) t
    both_read tells p b = subst (λ (n : ℕ). ReadsBoth n (w.reads Disk) t) is
        (record { primary = other_agrees Backup size large v.reads w.reads (second.touches.told tells).reads ∙ p; backup = b })
