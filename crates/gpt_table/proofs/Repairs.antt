-- The lesser copy, written from the table.
use Rattle.std.proofs.Common.{◌≡◌, inl, inr, ⊎_elim, ℕ, ◌-◌, ◌/◌, ◌≤◌, Option, Some, None, IfSome, refl, sym, subst, ◌∙◌, ap, arith}
use Rattle.std.proofs.lemmas.Option.{same_Some}
use Rattle.bd_dev.specs.declared.plant.Area.TheVariants.{Disk}
use Rattle.bd_dev.specs.Content.{Image}
use Rattle.bd_dev.specs.Plant.{View, IsImage, IsSynced, OnlyReads}
use Rattle.bd_dev.proofs.Windows.{at_byte}
use Rattle.storage_model.specs.Copies.{HasSameTable, IsCleanOpening, MayBeCopy, ReadsBoth, TouchesAtMost, TouchesCopies, TouchesLesser, other_copy}
use Rattle.gpt_copy.specs.declared.table.Table.{Table}
use Rattle.gpt_copy.specs.declared.table.Which.{Which}
use Rattle.gpt_copy.specs.declared.table.Which.TheVariants.{Primary, Backup}
use Rattle.gpt_copy.specs.Copy.{FitsDisk}
use Rattle.bd_dev.specs.Runs.{LeavesOnly, Looks, ReadsOnly}
use Rattle.bd_dev.specs.Touching.{AgreesOutside, KeepsSynced, Touches}
use Rattle.bd_dev.proofs.Joins.{leaves_then, reads_then}
use Rattle.bd_dev.proofs.Touch.{leaves_weaker, reads_weaker, touch_look, touch_then}
use Rattle.storage_model.specs.Disk.{Found, copy_lba, copy_of, found, table_of}
use Rattle.gpt_table.proofs.CopyRuns.{copies_then, look_touches, other_agrees, other_stands, touches_copies}
use Rattle.gpt_table.proofs.Finding.{found_tells, table_backup, table_found, table_primary}
use Rattle.gpt_table.proofs.Replacements.{Writes, fits_large}

-- what is read while a disk is opened that read as z
abbrev IsOpened : ℕ → Image → Image → Type 0
IsOpened size z c = IsCleanOpening size z c × HasSameTable size z c

-- A run while a disk is opened that read as z.
pub record Opens (size : ℕ) (z : Image) (u v : View) : Type 0 where
  pub crash : LeavesOnly u v (λ c. IsCleanOpening size z c → HasSameTable size z c)
  pub between : ReadsOnly u v (IsOpened size z)

own_copy : (which : Which) (size : ℕ) (z : ℕ → ℕ) (o : Option Table) → copy_of which size z ≡ o → IfSome o (MayBeCopy which size z)
own_copy which size z None is = tt
own_copy which size z (Some t) is = inl is

-- what was read at first
opened_self : (size : ℕ) (z : Image) → IsOpened size z z
opened_self size z = (record { primary = own_copy Primary size (z Disk) _ refl; backup = own_copy Backup size (z Disk) _ refl }, refl)

-- an image of a disk with nothing unsynced
whole_disk : (v : View) (c : Image) → IsSynced v Disk → IsImage v c → c Disk ≡ v.reads Disk
whole_disk v c synced image = λ i k. at_byte (v.reads Disk) (c Disk) k (image Disk (k / 512) (synced (k / 512))) i

-- a run that only reads
pub look_opens : (size : ℕ) (u v : View) → u.tells → IsSynced u Disk → Looks u v → Opens size u.reads u v
look_opens size u v tells synced looks =
    let run = looks.told tells in
    record {
      crash = leaves_weaker u v _ _ run.crash (λ c image clean. ap (λ (z : ℕ → ℕ). table_of size z) (whole_disk u c synced image));
      between = reads_weaker u v _ _ run.between (λ c same. subst (IsOpened size u.reads) (sym same) (opened_self size u.reads));
    }

-- and then what follows
pub opens_then : (size : ℕ) (u v w : View) → v.reads ≡ u.reads → Opens size u.reads u v → Opens size v.reads v w → Opens size u.reads u w
opens_then size u v w reads first second = record {
  crash = leaves_then u v w _ _ first.crash second.crash (λ c is. subst (λ (z : Image). IsCleanOpening size z c → HasSameTable size z c) reads is);
  between = reads_then u v w _ _ first.between second.between (λ c is. subst (λ (z : Image). IsOpened size z c) reads is);
}

module _ (size : ℕ) (t : Table) (large : 68 ≤ size) where
  -- the copy that the table was read from stands
  from_stands : (from : Which) (v : View) (c : Image) → IsSynced v Disk → KeepsSynced Disk (copy_lba (other_copy from) size) 33 v c → copy_of from size (c Disk) ≡ copy_of from size (v.reads Disk)
  from_stands Primary v c synced keeps = other_stands Backup size large v c (λ s un. absurd (synced s un)) keeps
  from_stands Backup v c synced keeps = other_stands Primary size large v c (λ s un. absurd (synced s un)) keeps

  from_agrees : (from : Which) (z c : Image) → AgreesOutside Disk (copy_lba (other_copy from) size) 33 z c → copy_of from size (c Disk) ≡ copy_of from size (z Disk)
  from_agrees Primary z c agrees = other_agrees Backup size large z c agrees
  from_agrees Backup z c agrees = other_agrees Primary size large z c agrees

  table_is : (z : ℕ → ℕ) (from : Which) → found size z ≡ Some (record { table = t; copy = from }) → table_of size z ≡ Some t
  table_is z from is = table_found size z _ is

  -- the backup stands: no clean primary is another table
  by_backup : (z c : ℕ → ℕ) (p : Option Table) → copy_of Primary size z ≡ None → table_of size z ≡ Some t → copy_of Primary size c ≡ p → IfSome p (MayBeCopy Primary size z) → copy_of Backup size c ≡ Some t → table_of size c ≡ Some t
  by_backup z c None none is p clean b = table_backup size c t large p b
  by_backup z c (Some x) none is p (inl was) b = let gone : None ≡ Some x = sym none ∙ was in absurd cc
  by_backup z c (Some x) none is p (inr table) b = table_primary size c t large (p ∙ sym table ∙ is)

  same_table : (from : Which) (z c : Image) → found size (z Disk) ≡ Some (record { table = t; copy = from }) → copy_of from size (c Disk) ≡ copy_of from size (z Disk) → IsCleanOpening size z c → HasSameTable size z c
  same_table Primary z c is same clean = table_primary size (c Disk) t large (same ∙ (found_tells size (z Disk) t Primary large is).0) ∙ sym (table_is (z Disk) Primary is)
  same_table Backup z c is same clean =
      let tells = found_tells size (z Disk) t Backup large is in
      let table = table_is (z Disk) Backup is in
      by_backup (z Disk) (c Disk) (copy_of Primary size (c Disk)) (tells.1 refl) table refl clean.primary (same ∙ tells.0) ∙ sym table

  -- both copies read as the table
  pub both_of : (from : Which) (c : ℕ → ℕ) → copy_of from size c ≡ Some t → copy_of (other_copy from) size c ≡ Some t → ReadsBoth size c t
  both_of Primary c here there = record { primary = here; backup = there }
  both_of Backup c here there = record { primary = there; backup = here }

  opened_both : (z c : Image) → table_of size (z Disk) ≡ Some t → ReadsBoth size (c Disk) t → IsOpened size z c
  opened_both z c is both = (
    record {
      primary = subst (λ (o : Option Table). IfSome o (MayBeCopy Primary size (z Disk))) (sym both.primary) (inr is);
      backup = subst (λ (o : Option Table). IfSome o (MayBeCopy Backup size (z Disk))) (sym both.backup) (inr is);
    },
    table_primary size (c Disk) t large both.primary ∙ sym is,
  )

  -- while the lesser copy is written
  pub write_opens : (from : Which) (v w : View) → v.tells → IsSynced v Disk → found size (v.reads Disk) ≡ Some (record { table = t; copy = from }) → Writes (other_copy from) size t v w → Opens size v.reads v w
  write_opens from v w tells synced is writes =
      let here = (found_tells size (v.reads Disk) t from large is).0 in
      record {
        crash = leaves_weaker v w _ _ (writes.touches.told tells).crash (λ c keeps clean. same_table from v.reads c is (from_stands from v c synced keeps) clean);
        between = reads_weaker v w _ _ (writes.between tells) (λ c. ⊎_elim
            (λ same. subst (IsOpened size v.reads) (sym same) (opened_self size v.reads))
            (λ wrote. opened_both v.reads c (table_is (v.reads Disk) from is) (both_of from (c Disk) (from_agrees from v.reads c wrote.outside ∙ here) wrote.inside)));
      }

  -- and then both copies read as the table
  pub write_reads : (from : Which) (v w : View) → v.tells → found size (v.reads Disk) ≡ Some (record { table = t; copy = from }) → Touches Disk (copy_lba (other_copy from) size) 33 v w → copy_of (other_copy from) size (w.reads Disk) ≡ Some t → ReadsBoth size (w.reads Disk) t
  write_reads from v w tells is touches written =
      both_of from (w.reads Disk) (from_agrees from v.reads w.reads (touches.told tells).reads ∙ (found_tells size (v.reads Disk) t from large is).0) written

-- the disk was read, and the lesser copy is written where it is not the table
module _ (size : ℕ) (lesser from : Which) (t : Table) (u v w : View) (is : size ≡ u.size Disk) (other : lesser ≡ other_copy from) (fits : FitsDisk (u.size Disk - 1) t) (looks : Looks u v) where
  large : 68 ≤ size
  large = let h = fits_large (u.size Disk) t fits in omega (arith, is, h)

  found_here : found (u.size Disk) (u.reads Disk) ≡ Some (record { table = t; copy = from }) → found size (u.reads Disk) ≡ Some (record { table = t; copy = from })
  found_here was = ap (λ (n : ℕ). found n (u.reads Disk)) is ∙ was

  found_then : u.tells → found (u.size Disk) (u.reads Disk) ≡ Some (record { table = t; copy = from }) → found size (v.reads Disk) ≡ Some (record { table = t; copy = from })
  found_then tells was = ap (λ (z : Image). found size (z Disk)) (looks.told tells).only.reads ∙ found_here was

  writes_other : Writes lesser size t v w → Writes (other_copy from) size t v w
  writes_other writes = subst (λ (which : Which). Writes which size t v w) other writes

  -- the other copy was the table already
  pub agreeing : u.tells → found (u.size Disk) (u.reads Disk) ≡ Some (record { table = t; copy = from }) → copy_of lesser size (u.reads Disk) ≡ Some t → ReadsBoth (u.size Disk) (v.reads Disk) t
  agreeing tells was there = subst (λ (n : ℕ). ReadsBoth n (v.reads Disk) t) is (subst (λ (z : Image). ReadsBoth size (z Disk) t) (sym (looks.told tells).only.reads)
      (both_of size t large from (u.reads Disk) (found_tells size (u.reads Disk) t from large (found_here was)).0 (subst (λ (which : Which). copy_of which size (u.reads Disk) ≡ Some t) other there)))

  -- copies that agree are the table
  pub agrees : (x : Table) → found (u.size Disk) (u.reads Disk) ≡ Some (record { table = t; copy = from }) → ReadsBoth (u.size Disk) (u.reads Disk) x → copy_of lesser size (u.reads Disk) ≡ Some t
  agrees x was both =
      let here = subst (λ (n : ℕ). ReadsBoth n (u.reads Disk) x) (sym is) both in
      each lesser here ∙ sym (each from here) ∙ (found_tells size (u.reads Disk) t from large (found_here was)).0
    where
      each : (which : Which) → ReadsBoth size (u.reads Disk) x → copy_of which size (u.reads Disk) ≡ Some x
      each Primary both = both.primary
      each Backup both = both.backup

  pub repair_opens : u.tells → IsSynced u Disk → found (u.size Disk) (u.reads Disk) ≡ Some (record { table = t; copy = from }) → Writes lesser size t v w → Opens (u.size Disk) u.reads u w
  repair_opens tells synced was writes =
      let run = looks.told tells in
      subst (λ (n : ℕ). Opens n u.reads u w) is (opens_then size u v w run.only.reads (look_opens size u v tells synced looks)
      (write_opens size t large from v w (looks.continues.still_tells tells) (λ s un. synced s (run.only.unsynced.unsynced Disk s un)) (found_then tells was) (writes_other writes)))

  pub repair_touches : Touches Disk (copy_lba lesser size) 33 v w → TouchesCopies u w
  repair_touches touches = copies_then u v w (look_touches u v looks) (touches_copies lesser size v w (is ∙ sym (looks.continues.size Disk)) large touches)

  pub repair_lesser : Touches Disk (copy_lba lesser size) 33 v w → Touches Disk (copy_lba (other_copy from) (u.size Disk)) 33 u w
  repair_lesser touches = touch_then Disk (copy_lba (other_copy from) (u.size Disk)) 33 u v w (touch_look Disk (copy_lba (other_copy from) (u.size Disk)) 33 u v looks)
      (subst (λ (T : Type 0). T) (λ i. Touches Disk (copy_lba (other i) (is i)) 33 v w) touches)

  pub repair_reads : u.tells → found (u.size Disk) (u.reads Disk) ≡ Some (record { table = t; copy = from }) → Writes lesser size t v w → copy_of lesser size (w.reads Disk) ≡ Some t → ReadsBoth (u.size Disk) (w.reads Disk) t
  repair_reads tells was writes there = subst (λ (n : ℕ). ReadsBoth n (w.reads Disk) t) is
      (write_reads size t large from v w (looks.continues.still_tells tells) (found_then tells was) (writes_other writes).touches (subst (λ (which : Which). copy_of which size (w.reads Disk) ≡ Some t) other there))

-- a run that touches the lesser copy alone
lesser_of : (u w : View) (f : Found) → Touches Disk (copy_lba (other_copy f.copy) (u.size Disk)) 33 u w → u.tells → TouchesAtMost (other_copy f.copy) u w
lesser_of u w f touches tells = let run = touches.told tells in record { reads = run.reads; unsynced = run.unsynced; crash = run.crash }

-- the disk was looked at, and then repaired
module _ (u v w : View) (looks : Looks u v) where
  pub open_opens : u.tells → IsSynced u Disk → Opens (v.size Disk) v.reads v w → Opens (u.size Disk) u.reads u w
  open_opens tells synced second =
      opens_then (u.size Disk) u v w (looks.told tells).only.reads (look_opens (u.size Disk) u v tells synced looks) (subst (λ (n : ℕ). Opens n v.reads v w) (looks.continues.size Disk) second)

  pub open_touches : TouchesCopies v w → TouchesCopies u w
  open_touches touches = copies_then u v w (look_touches u v looks) touches

  -- and not written, where the copies agreed
  pub open_reads : u.tells → (t : Table) → ReadsBoth (u.size Disk) (u.reads Disk) t → (ReadsBoth (v.size Disk) (v.reads Disk) t → OnlyReads v w) → OnlyReads u w
  open_reads tells t both unwritten =
      let first = (looks.told tells).only in
      let here = subst (λ (n : ℕ). ReadsBoth n (u.reads Disk) t) (sym (looks.continues.size Disk)) both in
      let second = unwritten (subst (λ (z : Image). ReadsBoth (v.size Disk) (z Disk) t) (sym first.reads) here) in
      record {
        reads = second.reads ∙ first.reads;
        unsynced = record {
          unsynced = λ a s un. first.unsynced.unsynced a s (second.unsynced.unsynced a s un);
          still_unsynced = λ a s un. second.unsynced.still_unsynced a s (first.unsynced.still_unsynced a s un);
        };
        writes = second.writes ∙ first.writes;
      }

  -- at most the lesser copy is touched

  pub open_look : u.tells → TouchesLesser u v
  open_look tells f is = lesser_of u v f (touch_look Disk (copy_lba (other_copy f.copy) (u.size Disk)) 33 u v looks) tells

  pub open_lesser : u.tells → (t : Table) (from : Which) → found (u.size Disk) (u.reads Disk) ≡ Some (record { table = t; copy = from })
      → Touches Disk (copy_lba (other_copy from) (v.size Disk)) 33 v w → TouchesLesser u w
  open_lesser tells t from here touches f is =
      let same : from ≡ f.copy = (let both : Some (record { table = t; copy = from }) ≡ Some f = sym here ∙ is in ap (λ (x : Found). x.copy) (same_Some (record { table = t; copy = from }) f both)) in
      let then = subst (λ (n : ℕ). Touches Disk (copy_lba (other_copy from) n) 33 v w) (looks.continues.size Disk) touches in
      lesser_of u w f (subst (λ (which : Which). Touches Disk (copy_lba (other_copy which) (u.size Disk)) 33 u w) same
      (touch_then Disk (copy_lba (other_copy from) (u.size Disk)) 33 u v w (touch_look Disk (copy_lba (other_copy from) (u.size Disk)) 33 u v looks) then)) tells
