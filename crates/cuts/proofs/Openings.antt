-- An opening: calls that leave what is read as it is, until nothing is unsynced; and then a repair of the copies.
use Rattle.std.proofs.Common.{◌≡◌, inl, inr, ℕ, refl, sym, ◌∙◌, ap, subst, arith, Option, Some, None, IfSome}
use Rattle.bd_dev.specs.declared.plant.Area.{Area}
use Rattle.bd_dev.specs.declared.plant.Area.TheVariants.{Disk, Flash}
use Rattle.bd_dev.specs.Content.{Image}
use Rattle.bd_dev.specs.Plant.{View, IsHonest, IsImage, IsSynced}
use Rattle.gpt_copy.specs.declared.table.Table.{Table}
use Rattle.gpt_copy.specs.declared.table.Which.{Which}
use Rattle.gpt_copy.specs.declared.table.Which.TheVariants.{Primary, Backup}
use Rattle.bd_dev.specs.Runs.{Continues, LeavesOnly, Looks, ReadsOnly}
use Rattle.bd_dev.specs.Touching.{Touches}
use Rattle.bd_dev.proofs.Joins.{continues_then, leaves_then, reads_then, same_all, same_sector_trans}
use Rattle.bd_dev.proofs.Touch.{leaves_both, leaves_weaker, reads_both, reads_of, reads_weaker}
use Rattle.storage_model.specs.Disk.{copy_of, table_of}
use Rattle.storage_model.specs.Variables.{kept_in}
use Rattle.storage_model.specs.Copies.{HasSameTable, IsCleanOpening, KeepsOffTable, MayBeCopy, TouchesCopies}
use Rattle.cuts.specs.Spans.{IsSettledFrom, MayBeOpeningCut, Opens}
use Rattle.cuts.proofs.Steady.{whole_area}

-- a run that leaves what is read and marks nothing
pub record IsQuiet (old new : View) : Type 0 where
  pub continues : Continues old new
  pub reads : new.reads ≡ old.reads
  pub unsynced : (a : Area) (s : ℕ) → new.unsynced a s → old.unsynced a s
  pub crash : LeavesOnly old new (IsImage old)
  pub between : ReadsOnly old new (λ c. c ≡ old.reads)

-- after it nothing is unsynced
pub record IsSettled (old new : View) : Type 0 where
  pub quiet : IsQuiet old new
  pub disk : IsSynced new Disk
  pub flash : IsSynced new Flash

pub quiet_look : (old new : View) → old.tells → Looks old new → IsQuiet old new
quiet_look old new tells looks =
    let run = looks.told tells in
    record { continues = looks.continues; reads = run.only.reads; unsynced = run.only.unsynced.unsynced; crash = run.crash; between = run.between }

pub quiet_sync : (area : Area) (old new : View) → old.tells → Touches area 0 0 old new → new.reads ≡ old.reads → ReadsOnly old new (λ c. c ≡ old.reads) → IsQuiet old new
quiet_sync area old new tells touches reads between =
    let run = touches.told tells in
    record {
      continues = touches.continues;
      reads = reads;
      unsynced = λ a s un. run.unsynced a s (λ same. inr (omega arith)) un;
      crash = leaves_weaker old new _ _ run.crash (λ c keeps a s synced. keeps a s (λ same. inr (omega arith)) synced);
      between = between;
    }

-- what a crash may leave after a quiet run, it may leave before
quiet_image : (old new : View) → IsQuiet old new → (c : Image) → IsImage new c → IsImage old c
quiet_image old new quiet c image a s synced =
    same_sector_trans (old.reads a) (new.reads a) (c a) s (same_all old.reads new.reads quiet.reads a s) (image a s (λ un. synced (quiet.unsynced a s un)))

pub quiet_then : (old mid new : View) → IsQuiet old mid → IsQuiet mid new → IsQuiet old new
quiet_then old mid new first second = record {
  continues = continues_then old mid new first.continues second.continues;
  reads = second.reads ∙ first.reads;
  unsynced = λ a s un. first.unsynced a s (second.unsynced a s un);
  crash = leaves_then old mid new (IsImage old) (IsImage mid) first.crash second.crash (quiet_image old mid first);
  between = reads_then old mid new (λ c. c ≡ old.reads) (λ c. c ≡ mid.reads) first.between second.between (λ c same. same ∙ first.reads);
}

pub settled_then : (old mid new : View) → IsSettled old mid → IsQuiet mid new → IsSettled old new
settled_then old mid new settled quiet = record {
  quiet = quiet_then old mid new settled.quiet quiet;
  disk = λ s un. settled.disk s (quiet.unsynced Disk s un);
  flash = λ s un. settled.flash s (quiet.unsynced Flash s un);
}

-- what is read itself is a cut, and clean

own_copy : (which : Which) (size : ℕ) (z : ℕ → ℕ) → IfSome (copy_of which size z) (MayBeCopy which size z)
own_copy which size z = by_copy (copy_of which size z) refl
  where
    by_copy : (copy : Option Table) → copy_of which size z ≡ copy → IfSome copy (MayBeCopy which size z)
    by_copy None is = tt
    by_copy (Some t) is = inl is

own_clean : (size : ℕ) (z : Image) → IsCleanOpening size z z
own_clean size z = record { primary = own_copy Primary size (z Disk); backup = own_copy Backup size (z Disk) }

own_cut : (size : Area → ℕ) (z : Image) → MayBeOpeningCut size z z
own_cut size z = record { table = λ clean. refl; variables = refl; sectors = λ q lt off k below. refl }

own_both : (size : Area → ℕ) (z c : Image) → c ≡ z → IsCleanOpening (size Disk) z c × MayBeOpeningCut size z c
own_both size z c same = subst (λ (x : Image). IsCleanOpening (size Disk) z x × MayBeOpeningCut size z x) (sym same) (own_clean (size Disk) z, own_cut size z)

-- an opening that comes no further than quiet calls
pub opens_quiet : (old new : View) → IsQuiet old new → Opens old new
opens_quiet old new quiet = record {
  crash = leaves_weaker old new _ _ quiet.crash (λ c image. inl image);
  settled = inl quiet.crash;
  between = reads_weaker old new _ _ quiet.between (λ c same. own_both old.size old.reads c same);
}

-- an image that keeps all but the copies, after a settled run
kept_cut : (old mid : View) → IsSettled old mid → (c : Image) → (IsCleanOpening (mid.size Disk) mid.reads c → HasSameTable (mid.size Disk) mid.reads c) → KeepsOffTable mid c → MayBeOpeningCut mid.size mid.reads c
kept_cut old mid settled c table keeps = record {
  table = table;
  variables = ap (λ (z : ℕ → ℕ). kept_in (mid.size Flash) z) (whole_area (mid.reads Flash) (c Flash) (λ s. keeps Flash s (λ other. cc) (settled.flash s)));
  sectors = λ q lt off. keeps Disk q (λ same. off) (settled.disk q);
}

-- an opening that repairs the copies, once nothing is unsynced
module _ (old mid new : View) (tells : mid.tells) (settled : IsSettled old mid) (touches : TouchesCopies mid new)
    (crash : LeavesOnly mid new (λ c. IsCleanOpening (mid.size Disk) mid.reads c → HasSameTable (mid.size Disk) mid.reads c)) where
  repair_sizes : mid.size ≡ old.size
  repair_sizes = λ i a. (settled.quiet.continues.size a) i

  repair_here : (c : Image) → MayBeOpeningCut mid.size mid.reads c → MayBeOpeningCut old.size old.reads c
  repair_here c cut = subst (λ (T : Type 0). T) (λ i. MayBeOpeningCut (repair_sizes i) (settled.quiet.reads i) c) cut

  clean_here : (c : Image) → IsCleanOpening (mid.size Disk) mid.reads c → IsCleanOpening (old.size Disk) old.reads c
  clean_here c clean = subst (λ (T : Type 0). T) (λ i. IsCleanOpening (repair_sizes i Disk) (settled.quiet.reads i) c) clean

  repair_cuts : LeavesOnly mid new (MayBeOpeningCut mid.size mid.reads)
  repair_cuts = leaves_weaker mid new _ _ (leaves_both mid new _ _ crash (touches.told tells).crash) (λ c both. kept_cut old mid settled c both.0 both.1)

  -- from its first moment on a crash leaves cuts alone
  pub repair_settled : IsSettledFrom old new mid.moment
  repair_settled = record { from = settled.quiet.continues.later; to = touches.continues.later; cuts = λ c left. repair_here c (repair_cuts.each c left) }

  pub opens_repair : IsHonest new → ReadsOnly mid new (IsCleanOpening (mid.size Disk) mid.reads) → Opens old new
  opens_repair honest between = record {
    crash = leaves_then old mid new _ _ (leaves_weaker old mid _ _ settled.quiet.crash (λ c image. inl image)) repair_cuts (λ c cut. inr (repair_here c cut));
    settled = inr (mid.moment, repair_settled);
    between = reads_then old mid new _ _ (reads_weaker old mid _ _ settled.quiet.between (λ c same. own_both old.size old.reads c same))
        (reads_both mid new _ _ between (reads_of mid new _ honest (touches.continues.still_tells tells) repair_cuts)) (λ c both. (clean_here c both.0, repair_here c both.1));
  }

-- an opening that finds nothing to repair, once nothing is unsynced
pub opens_settled : (old mid new : View) → IsSettled old mid → IsQuiet mid new → Opens old new
opens_settled old mid new settled quiet = record {
  crash = leaves_then old mid new _ _ (leaves_weaker old mid _ _ settled.quiet.crash (λ c image. inl image)) quiet.crash (λ c image. inr (here c image));
  settled = inr (mid.moment, record { from = settled.quiet.continues.later; to = quiet.continues.later; cuts = λ c left. here c (quiet.crash.each c left) });
  between = reads_weaker old new _ _ (quiet_then old mid new settled.quiet quiet).between (λ c same. own_both old.size old.reads c same);
}
  where
    sizes : mid.size ≡ old.size
    sizes = λ i a. (settled.quiet.continues.size a) i

    here : (c : Image) → IsImage mid c → MayBeOpeningCut old.size old.reads c
    here c image = subst (λ (T : Type 0). T) (λ i. MayBeOpeningCut (sizes i) (settled.quiet.reads i) c)
        (kept_cut old mid settled c (λ clean. ap (λ (z : ℕ → ℕ). table_of (mid.size Disk) z) (whole_area (mid.reads Disk) (c Disk) (λ s. image Disk s (settled.disk s)))) (λ a s off synced. image a s synced))
