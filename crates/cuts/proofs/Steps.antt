-- One effect of a board: the span from a board that stands to the one after a call that has this effect.
use Rattle.std.proofs.Common.{◌≡◌, ◌⊎◌, inl, inr, ⊎_elim, ℕ, ◌+◌, ◌*◌, ◌/◌, ◌<◌, ◌≤◌, List, [], ◌∷◌, ◌++◌, length, true, false, Some, refl, sym, ◌∙◌, ap, subst, arith}
use Rattle.std.proofs.lemmas.List.{append-nil}
use Rattle.bd_dev.specs.declared.plant.Area.{Area}
use Rattle.bd_dev.specs.declared.plant.Area.TheVariants.{Disk, Flash}
use Rattle.bd_dev.specs.Content.{Image, Outside, SameSector, window}
use Rattle.bd_dev.specs.Plant.{IsHonest, IsImage, IsSynced}
use Rattle.bd_dev.specs.Runs.{Looks}
use Rattle.bd_dev.specs.Touching.{KeepsSynced, Touches}
use Rattle.bd_dev.proofs.Joins.{same_all, same_sector_trans}
use Rattle.bd_dev.proofs.Touch.{leaves_weaker}
use Rattle.storage_model.specs.Variables.{kept_in}
use Rattle.storage_model.specs.Copies.{OffCopies, ReadsBoth}
use Rattle.cuts.specs.declared.effect.Effect.{Effect}
use Rattle.cuts.specs.declared.effect.Effect.TheVariants.{Put, Sync}
use Rattle.cuts.specs.States.{InPut, after, off_copies, nothing, patch, pending}
use Rattle.cuts.specs.Cuts.{MayBeCut}
use Rattle.cuts.specs.Orderly.{IsLawfulPut}
use Rattle.cuts.specs.Spans.{HasOnlyPending, IsHeld, IsReached, Spans, Stands, Value, pending_of, state_of}
use Rattle.cuts.proofs.Joins.{pending_more, pending_then, span_of}
use Rattle.cuts.proofs.Patches.{patched_out, put_cases}
use Rattle.cuts.proofs.Reading.{image_off, put_off}
use Rattle.cuts.proofs.Steady.{IsSteady, at_rest, some_at_rest, in_put, in_sync, some_in_put, some_in_sync, steady, steady_now}

-- what a board holds beside its plant is as before
pub record HoldsSame (v w : Value) : Type 0 where
  pub table : w.table ≡ v.table
  pub text : w.text ≡ v.text
  pub number : w.number ≡ v.number

-- sectors were put: the board reads them so, and all others as before
pub record HasPut (v w : Value) (lba : ℕ) (bytes : List ℕ) : Type 0 where
  pub outside : (q : ℕ) → (InPut lba bytes q → ⊥) → SameSector v.disk w.disk q
  pub inside : window w.disk (512 * lba) (length bytes) ≡ bytes

-- what was put was made durable
pub record HasSynced (v w : Value) : Type 0 where
  pub disk : w.disk ≡ v.disk
  pub synced : IsSynced w.view Disk
  pub held : IsHeld w

-- the sectors outside a put
pub outside_put : (lba : ℕ) (bytes : List ℕ) (q : ℕ) → (InPut lba bytes q → ⊥) → Outside Disk lba (length bytes / 512) Disk q
outside_put lba bytes q out same_area = ⊎_elim (λ inside. absurd (out inside)) (λ around. around) (put_cases lba bytes q)

-- the board after a call that leaves the copies and the flash alone
stands_next : (v w : Value) (T : ℕ → Type 0) → ((a : Area) → w.view.size a ≡ v.view.size a) → HoldsSame v w → IsSteady v T w.view.reads → Stands w
stands_next v w T size same s = record {
  table = subst (λ (T : Type 0). T) (λ i. ReadsBoth (sym (size Disk) i) (w.view.reads Disk) (sym same.table i)) s.copies;
  variables = ap (λ (n : ℕ). kept_in n (w.view.reads Flash)) (size Flash) ∙ s.variables ∙ (λ i. Some (record { number = sym same.number i; content = sym same.text i }));
}

module _ (v w : Value) (honest : IsHonest w.view) (tells : v.view.tells) (stands : Stands v) (only : HasOnlyPending v) where
  -- sectors were put, or the put failed
  module _ (lba : ℕ) (bytes : List ℕ) (lawful : IsLawfulPut (v.view.size Disk) lba bytes) (touches : Touches Disk lba (length bytes / 512) v.view w.view)
      (same : HoldsSame v w) (journal : w.journal ≡ v.journal ++ Put lba bytes ∷ []) where
    put_steady : (c : Image) → KeepsSynced Disk lba (length bytes / 512) v.view c → IsSteady v (InPut lba bytes) c
    put_steady c keeps = steady v stands only (InPut lba bytes) lawful.off c
        (λ a s out synced. keeps a s (λ is. ⊎_elim (λ inside. absurd (out is inside)) (λ around. around) (put_cases lba bytes s)) synced)

    put_now : IsSteady v (InPut lba bytes) w.view.reads
    put_now = put_steady w.view.reads (λ a s out synced. (touches.told tells).reads a s out)

    put_image : (c : Image) → IsImage w.view c → IsSteady v (InPut lba bytes) c
    put_image c image =
        let crash = (touches.told tells).crash in
        put_steady c (crash.each c (honest.counts_now (touches.continues.still_tells tells) v.view.moment c crash.later image))

    pub pending_put : IsHeld w → HasOnlyPending w
    pending_put held = record {
      disk = λ q un. pending_more v w (Put lba bytes) journal q (⊎_elim (λ inside. inr inside) (λ around. inl (only.disk q (was q around un))) (put_cases lba bytes q));
      copies = λ q un. subst (λ (n : ℕ). OffCopies n q) (sym (touches.continues.size Disk))
          (⊎_elim (λ inside. lawful.off q inside) (λ around. only.copies q (was q around un)) (put_cases lba bytes q));
      flash = λ s un. only.flash s ((touches.told tells).unsynced Flash s (λ other. cc) un);
      held = held;
    }
      where
        was : (q : ℕ) → (q < lba) ⊎ (lba + length bytes / 512 ≤ q) → w.view.unsynced Disk q → v.view.unsynced Disk q
        was q around un = (touches.told tells).unsynced Disk q (λ is. around) un

    put_disk : HasPut v w lba bytes → off_copies (w.view.size Disk) w.disk ≡ patch (off_copies (v.view.size Disk) v.disk) (512 * lba) bytes
    put_disk put = ap (λ (n : ℕ). off_copies n w.disk) (touches.continues.size Disk)
        ∙ put_off (v.view.size Disk) v.disk w.disk lba bytes lawful.whole lawful.off put.outside put.inside

    -- once the sectors were put
    put_ends : (c : Image) → IsSteady v (InPut lba bytes) c → MayBeCut v.view.size (state_of v) (pending_of v) (Put lba bytes ∷ []) 1 c
    put_ends c s = record {
      table = s.copies;
      variables = s.variables;
      sectors = λ q lt off pends runs k below.
          s.sectors q off (λ was. pends (inl was)) (λ inside. pends (inr inside)) k below
          ∙ sym (patched_out (state_of v).disk lba bytes q lawful.whole (λ inside. pends (inr inside)) k below);
    }

    put_span : (n : ℕ) → (w.failed ≡ false → state_of w ≡ after (state_of v) (Put lba bytes ∷ [])) → IsReached w.failed n (Put lba bytes ∷ [])
        → ((c : Image) → IsImage w.view c → MayBeCut v.view.size (state_of v) (pending_of v) (Put lba bytes ∷ []) n c) → Spans v w
    put_span n state is now = span_of v w (Put lba bytes ∷ []) n honest (touches.continues.still_tells tells) touches.continues.still_tells touches.continues.size journal (lawful, tt) state
        (λ live. stands_next v w (InPut lba bytes) touches.continues.size same put_now)
        (leaves_weaker v.view w.view _ _ (touches.told tells).crash (λ c keeps. some_in_put v lba bytes c (put_steady c keeps)))
        is now

    pub spans_put : (w.failed ≡ true) ⊎ HasPut v w lba bytes → Spans v w
    spans_put (inl failed) = put_span 0 (λ live. cc) (inr (failed, refl)) (λ c image. in_put v lba bytes c (put_image c image))
    spans_put (inr is) = put_span 1 (λ live i. record { table = same.table i; text = same.text i; number = same.number i; disk = put_disk is i }) (inl refl) (λ c image. put_ends c (put_image c image))

  -- what was put was made durable, or the sync failed
  module _ (reads : w.view.reads ≡ v.view.reads) (touches : Touches Disk 0 0 v.view w.view) (same : HoldsSame v w) (journal : w.journal ≡ v.journal ++ Sync ∷ []) where
    was_unsynced : (a : Area) (s : ℕ) → w.view.unsynced a s → v.view.unsynced a s
    was_unsynced a s un = (touches.told tells).unsynced a s (λ is. inr (omega arith)) un

    sync_steady : (c : Image) → KeepsSynced Disk 0 0 v.view c → IsSteady v (λ q. ⊥) c
    sync_steady c keeps = steady_now v stands only c (λ a s synced. keeps a s (λ is. inr (omega arith)) synced)

    sync_image : (c : Image) → IsImage w.view c → IsSteady v (λ q. ⊥) c
    sync_image c image =
        let crash = (touches.told tells).crash in
        sync_steady c (crash.each c (honest.counts_now (touches.continues.still_tells tells) v.view.moment c crash.later image))

    sync_disk : HasSynced v w → off_copies (w.view.size Disk) w.disk ≡ off_copies (v.view.size Disk) v.disk
    sync_disk done = λ i. off_copies (touches.continues.size Disk i) (done.disk i)

    sync_span : (n : ℕ) → (w.failed ≡ false → HasSynced v w) → IsReached w.failed n (Sync ∷ []) → ((c : Image) → IsImage w.view c → MayBeCut v.view.size (state_of v) (pending_of v) (Sync ∷ []) n c) → Spans v w
    sync_span n done is now = span_of v w (Sync ∷ []) n honest (touches.continues.still_tells tells) touches.continues.still_tells touches.continues.size journal (tt, tt)
        (λ live i. record { table = same.table i; text = same.text i; number = same.number i; disk = sync_disk (done live) i })
        (λ live. stands_next v w (λ q. ⊥) touches.continues.size same (steady_now v stands only w.view.reads (λ a s synced. same_all v.view.reads w.view.reads reads a s)))
        (leaves_weaker v.view w.view _ _ (touches.told tells).crash (λ c keeps. some_in_sync v c (sync_steady c keeps)))
        is now

    -- once it was made durable
    none_pends : (q : ℕ) → pending_of w q → ⊥
    none_pends q pends = subst (λ (P : ℕ → Type 0). P q) (pending_then v w (Sync ∷ []) journal) pends

    sync_ends : HasSynced v w → (c : Image) → IsImage w.view c → MayBeCut v.view.size (state_of v) (pending_of v) (Sync ∷ []) 1 c
    sync_ends done c image =
        let s = sync_image c image in
        record {
          table = s.copies;
          variables = s.variables;
          sectors = λ q lt off pends runs. image_off (v.view.size Disk) v.disk (c Disk) q off
              (subst (λ (z : ℕ → ℕ). SameSector z (c Disk) q) done.disk (same_sector_trans w.disk (w.view.reads Disk) (c Disk) q (done.held q (none_pends q)) (image Disk q (done.synced q))));
        }

    pub spans_sync : (w.failed ≡ true) ⊎ HasSynced v w → Spans v w
    spans_sync (inl failed) = sync_span 0 (λ live. cc) (inr (failed, refl)) (λ c image. in_sync v c (sync_image c image))
    spans_sync (inr done) = sync_span 1 (λ live. done) (inl refl) (sync_ends done)

    pub pending_sync : HasSynced v w → HasOnlyPending w
    pending_sync done = record { disk = λ q un. absurd (done.synced q un); copies = λ q un. absurd (done.synced q un); flash = λ s un. only.flash s (was_unsynced Flash s un); held = done.held }

  -- a call that only reads, and has no effect
  module _ (looks : Looks v.view w.view) (same : HoldsSame v w) (same_disk : w.disk ≡ v.disk) (journal : w.journal ≡ v.journal) where
    look_steady : (c : Image) → IsImage w.view c → IsSteady v (λ q. ⊥) c
    look_steady c image =
        let crash = (looks.told tells).crash in
        steady_now v stands only c (crash.each c (honest.counts_now (looks.continues.still_tells tells) v.view.moment c crash.later image))

    look_reads : w.view.reads ≡ v.view.reads
    look_reads = (looks.told tells).only.reads

    pub spans_look : Spans v w
    spans_look = span_of v w [] 0 honest (looks.continues.still_tells tells) looks.continues.still_tells looks.continues.size (journal ∙ sym (append-nil v.journal)) tt
        (λ live i. record { table = same.table i; text = same.text i; number = same.number i; disk = off_copies (looks.continues.size Disk i) (same_disk i) })
        (λ live. stands_next v w (λ q. ⊥) looks.continues.size same (steady_now v stands only w.view.reads (λ a s synced. same_all v.view.reads w.view.reads look_reads a s)))
        (leaves_weaker v.view w.view _ _ (looks.told tells).crash (λ c image. some_at_rest v c (steady_now v stands only c image)))
        (inl refl) (λ c image. at_rest v c (look_steady c image))

    pub pending_look : HasOnlyPending w
    pending_look = record {
      disk = λ q un. subst (λ (P : ℕ → Type 0). P q) (sym (ap (λ (l : List Effect). pending nothing l) journal)) (only.disk q (was Disk q un));
      copies = λ q un. subst (λ (n : ℕ). OffCopies n q) (sym (looks.continues.size Disk)) (only.copies q (was Disk q un));
      flash = λ s un. only.flash s (was Flash s un);
      held = λ q pends. subst (λ (T : Type 0). T) (λ i. SameSector (sym same_disk i) (sym look_reads i Disk) q)
          (only.held q (λ was_pending. pends (subst (λ (P : ℕ → Type 0). P q) (sym (ap (λ (l : List Effect). pending nothing l) journal)) was_pending)));
    }
      where
        was : (a : Area) (s : ℕ) → w.view.unsynced a s → v.view.unsynced a s
        was = (looks.told tells).only.unsynced.unsynced
