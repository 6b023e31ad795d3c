-- A change of a board's table, and one of its variables: the span from a board that stands to the one after it.
use Rattle.std.proofs.Common.{◌≡◌, ◌⊎◌, inl, inr, ⊎_elim, ℕ, ◌+◌, List, [], ◌∷◌, ◌++◌, true, false, Some, refl, sym, ◌∙◌, ap, subst, arith}
use Rattle.bd_dev.specs.declared.plant.Area.TheVariants.{Disk, Flash}
use Rattle.bd_dev.specs.Content.{Image, SameSector}
use Rattle.bd_dev.specs.Plant.{IsHonest, IsImage, IsSynced}
use Rattle.gpt_copy.specs.declared.table.Table.{Table}
use Rattle.bd_dev.specs.Runs.{LeavesOnly, ReadsOnly}
use Rattle.bd_dev.specs.Touching.{KeepsSynced, Touches}
use Rattle.bd_dev.proofs.Touch.{leaves_both, leaves_weaker, reads_both, reads_of, reads_weaker}
use Rattle.slot_model.specs.Slots.{Stored}
use Rattle.storage_model.specs.Variables.{kept_in}
use Rattle.storage_model.specs.Copies.{IsCleanBetween, IsEitherTable, KeepsOffTable, OffCopies, ReadsBoth, TouchesCopies}
use Rattle.cuts.specs.declared.effect.Effect.TheVariants.{Table as SetTable, Vars as SetVars}
use Rattle.cuts.specs.States.{after, off_copies}
use Rattle.cuts.specs.Cuts.{HasVariables, MayBeCut, MayBeCutAt, stored_of}
use Rattle.cuts.specs.Orderly.{IsLawfulTable, IsLawfulText}
use Rattle.cuts.specs.Spans.{HasOnlyPending, IsHeld, IsReached, Spans, Stands, Value, pending_of, state_of}
use Rattle.bd_dev.proofs.Joins.{same_sector_trans}
use Rattle.cuts.proofs.Joins.{pending_more, pending_then, span_of}
use Rattle.cuts.proofs.Reading.{image_off, same_off}
use Rattle.cuts.proofs.Steady.{IsSteady, clean_of, steady_now, whole_area}

-- the table was set
pub record HasTableSet (v w : Value) (t : Table) : Type 0 where
  pub table : w.table ≡ t
  pub synced : IsSynced w.view Disk
  pub reads : ReadsBoth (v.view.size Disk) (w.view.reads Disk) t
  pub disk : (q : ℕ) → OffCopies (v.view.size Disk) q → SameSector v.disk w.disk q
  pub held : IsHeld w

-- the variables under the next number
abbrev pub next_kept : Value → List ℕ → Stored
next_kept v text = record { number = v.number + 1; content = text }

-- the variables were set
pub record HasVariablesSet (v w : Value) (new : List ℕ) : Type 0 where
  pub text : w.text ≡ new
  pub number : w.number ≡ v.number + 1
  pub synced : IsSynced w.view Flash
  pub reads : kept_in (v.view.size Flash) (w.view.reads Flash) ≡ Some (next_kept v new)
  pub disk : (q : ℕ) → OffCopies (v.view.size Disk) q → SameSector v.disk w.disk q
  pub held : IsHeld w

-- the flash holds the variables that a board reads, or these under the next number
abbrev pub IsEitherKept : Value → List ℕ → Image → Type 0
IsEitherKept v text c = (kept_in (v.view.size Flash) (c Flash) ≡ kept_in (v.view.size Flash) (v.view.reads Flash)) ⊎ (kept_in (v.view.size Flash) (c Flash) ≡ Some (next_kept v text))

-- the disk of one image, the flash of the other
abbrev mixed : Image → Image → Image
mixed z c Disk = c Disk
mixed z c Flash = z Flash

module _ (v w : Value) (honest : IsHonest w.view) (tells : v.view.tells) (stands : Stands v) (only : HasOnlyPending v) where
  -- the table was set, or that failed
  module _ (t : Table) (lawful : IsLawfulTable v.table t) (touches : TouchesCopies v.view w.view) (crash : LeavesOnly v.view w.view (λ c. IsCleanBetween (v.view.size Disk) v.table t c → IsEitherTable (v.view.size Disk) v.table t c))
      (between : ReadsOnly v.view w.view (IsCleanBetween (v.view.size Disk) v.table t)) (text : w.text ≡ v.text) (number : w.number ≡ v.number) (journal : w.journal ≡ v.journal ++ SetTable t ∷ []) where
    flash_is : (c : Image) → KeepsOffTable v.view c → kept_in (v.view.size Flash) (c Flash) ≡ Some (stored_of (state_of v))
    flash_is c keeps = ap (λ (z : ℕ → ℕ). kept_in (v.view.size Flash) z)
        (whole_area (v.view.reads Flash) (c Flash) (λ s. keeps Flash s (λ other. cc) (only.flash s))) ∙ stands.variables

    in_table : (c : Image) → (IsCleanBetween (v.view.size Disk) v.table t c → IsEitherTable (v.view.size Disk) v.table t c) → KeepsOffTable v.view c → MayBeCutAt v.view.size (state_of v) (pending_of v) (Some (SetTable t)) c
    in_table c either keeps = record {
      table = either;
      variables = flash_is c keeps;
      sectors = λ q lt off pends runs. image_off (v.view.size Disk) v.disk (c Disk) q off
          (same_sector_trans v.disk (v.view.reads Disk) (c Disk) q (only.held q pends) (keeps Disk q (λ is. off) (λ un. pends (only.disk q un))));
    }

    both : LeavesOnly v.view w.view (λ c. (IsCleanBetween (v.view.size Disk) v.table t c → IsEitherTable (v.view.size Disk) v.table t c) × KeepsOffTable v.view c)
    both = leaves_both v.view w.view _ _ crash (touches.told tells).crash

    later_tells : w.view.tells
    later_tells = touches.continues.still_tells tells

    now_is : (c : Image) → IsImage w.view c → (IsCleanBetween (v.view.size Disk) v.table t c → IsEitherTable (v.view.size Disk) v.table t c) × KeepsOffTable v.view c
    now_is c image = both.each c (honest.counts_now later_tells v.view.moment c both.later image)

    table_ends : HasTableSet v w t → (c : Image) → IsImage w.view c → MayBeCut v.view.size (state_of v) (pending_of v) (SetTable t ∷ []) 1 c
    table_ends done c image = record {
      table = subst (λ (z : ℕ → ℕ). ReadsBoth (v.view.size Disk) z t) (sym disk_is) done.reads;
      variables = flash_is c (now_is c image).1;
      sectors = λ q lt off pends runs. image_off (v.view.size Disk) v.disk (c Disk) q off
          (subst (λ (z : ℕ → ℕ). SameSector v.disk z q) (sym disk_is)
          (same_sector_trans v.disk w.disk (w.view.reads Disk) q (done.disk q off)
          (done.held q (λ pending_now. subst (λ (P : ℕ → Type 0). P q) (pending_then v w (SetTable t ∷ []) journal) pending_now))));
    }
      where
        disk_is : c Disk ≡ w.view.reads Disk
        disk_is = whole_area (w.view.reads Disk) (c Disk) (λ s. image Disk s (done.synced s))

    table_state : HasTableSet v w t → state_of w ≡ after (state_of v) (SetTable t ∷ [])
    table_state done = λ i. record { table = done.table i; text = text i; number = number i; disk = disk i }
      where
        disk : off_copies (w.view.size Disk) w.disk ≡ off_copies (v.view.size Disk) v.disk
        disk = ap (λ (n : ℕ). off_copies n w.disk) (touches.continues.size Disk) ∙ same_off (v.view.size Disk) v.disk w.disk done.disk

    table_stands : HasTableSet v w t → Stands w
    table_stands done = record {
      table = subst (λ (T : Type 0). T) (λ i. ReadsBoth (sym (touches.continues.size Disk) i) (w.view.reads Disk) (sym done.table i)) done.reads;
      variables = ap (λ (n : ℕ). kept_in n (w.view.reads Flash)) (touches.continues.size Flash)
          ∙ flash_is w.view.reads (λ a s off synced. (touches.told tells).reads a s off) ∙ (λ i. Some (record { number = sym number i; content = sym text i }));
    }

    table_span : (n : ℕ) → (w.failed ≡ false → HasTableSet v w t) → IsReached w.failed n (SetTable t ∷ [])
        → ((c : Image) → IsImage w.view c → MayBeCut v.view.size (state_of v) (pending_of v) (SetTable t ∷ []) n c) → Spans v w
    table_span n done is now = record {
      effects = SetTable t ∷ [];
      journal = journal;
      still_tells = touches.continues.still_tells;
      size = touches.continues.size;
      lawful = (lawful, tt);
      state = λ live. table_state (done live);
      stands = λ live. table_stands (done live);
      crash = leaves_weaker v.view w.view _ _ both (λ c two. (0, omega arith, in_table c two.0 two.1));
      between = reads_weaker v.view w.view _ _ (reads_both v.view w.view _ _ (reads_of v.view w.view _ honest later_tells both) between)
          (λ c two. (0, omega arith, in_table c two.0.0 two.0.1, two.1));
      count = n;
      count_is = is;
      now = now;
    }

    pub spans_table : (w.failed ≡ true) ⊎ HasTableSet v w t → Spans v w
    spans_table (inl failed) = table_span 0 (λ live. cc) (inr (failed, refl)) (λ c image. in_table c (now_is c image).0 (now_is c image).1)
    spans_table (inr done) = table_span 1 (λ live. done) (inl refl) (table_ends done)

    pub pending_table : HasTableSet v w t → HasOnlyPending w
    pending_table done = record {
      disk = λ q un. absurd (done.synced q un);
      copies = λ q un. absurd (done.synced q un);
      flash = λ s un. only.flash s ((touches.told tells).unsynced Flash s (λ other. cc) un);
      held = done.held;
    }

  -- the variables were set, or that failed
  module _ (text : List ℕ) (lawful : IsLawfulText v.number text) (touches : Touches Flash 0 34 v.view w.view) (crash : LeavesOnly v.view w.view (λ c. IsEitherKept v text c)) (table : w.table ≡ v.table) (journal : w.journal ≡ v.journal ++ SetVars text ∷ []) where
    disk_steady : (c : Image) → KeepsSynced Flash 0 34 v.view c → IsSteady v (λ q. ⊥) (mixed v.view.reads c)
    disk_steady c keeps = steady_now v stands only (mixed v.view.reads c) image
      where
        image : IsImage v.view (mixed v.view.reads c)
        image Disk s synced = keeps Disk s (λ other. cc) synced
        image Flash s synced = λ k lt. refl

    vars_either : (c : Image) → IsEitherKept v text c → HasVariables (v.view.size Flash) (state_of v) (Some (SetVars text)) c
    vars_either c either = ⊎_elim (λ same. inl (same ∙ stands.variables)) (λ new. inr new) either

    in_vars : (c : Image) → KeepsSynced Flash 0 34 v.view c → IsEitherKept v text c → MayBeCutAt v.view.size (state_of v) (pending_of v) (Some (SetVars text)) c
    in_vars c keeps either =
        let s = disk_steady c keeps in
        record { table = s.copies; variables = vars_either c either; sectors = λ q lt off pends runs. s.sectors q off pends (λ none. none) }

    vars_both : LeavesOnly v.view w.view (λ c. KeepsSynced Flash 0 34 v.view c × IsEitherKept v text c)
    vars_both = leaves_both v.view w.view _ _ (touches.told tells).crash crash

    vars_now : (c : Image) → IsImage w.view c → KeepsSynced Flash 0 34 v.view c × IsEitherKept v text c
    vars_now c image = vars_both.each c (honest.counts_now (touches.continues.still_tells tells) v.view.moment c vars_both.later image)

    keeps_now : KeepsSynced Flash 0 34 v.view w.view.reads
    keeps_now a s out synced = (touches.told tells).reads a s out

    vars_ends : HasVariablesSet v w text → (c : Image) → IsImage w.view c → MayBeCut v.view.size (state_of v) (pending_of v) (SetVars text ∷ []) 1 c
    vars_ends done c image =
        let s = disk_steady c (vars_now c image).0 in
        record {
          table = s.copies;
          variables = ap (λ (z : ℕ → ℕ). kept_in (v.view.size Flash) z) (whole_area (w.view.reads Flash) (c Flash) (λ s. image Flash s (done.synced s))) ∙ done.reads;
          sectors = λ q lt off pends runs. s.sectors q off pends (λ none. none);
        }

    vars_state : HasVariablesSet v w text → state_of w ≡ after (state_of v) (SetVars text ∷ [])
    vars_state done = λ i. record { table = table i; text = done.text i; number = done.number i; disk = disk i }
      where
        disk : off_copies (w.view.size Disk) w.disk ≡ off_copies (v.view.size Disk) v.disk
        disk = ap (λ (n : ℕ). off_copies n w.disk) (touches.continues.size Disk) ∙ same_off (v.view.size Disk) v.disk w.disk done.disk

    vars_stands : HasVariablesSet v w text → Stands w
    vars_stands done = record {
      table = subst (λ (T : Type 0). T) (λ i. ReadsBoth (sym (touches.continues.size Disk) i) (w.view.reads Disk) (sym table i)) (disk_steady w.view.reads keeps_now).copies;
      variables = ap (λ (n : ℕ). kept_in n (w.view.reads Flash)) (touches.continues.size Flash) ∙ done.reads ∙ (λ i. Some (record { number = sym done.number i; content = sym done.text i }));
    }

    vars_span : (n : ℕ) → (w.failed ≡ false → HasVariablesSet v w text) → IsReached w.failed n (SetVars text ∷ [])
        → ((c : Image) → IsImage w.view c → MayBeCut v.view.size (state_of v) (pending_of v) (SetVars text ∷ []) n c) → Spans v w
    vars_span n done is now = span_of v w (SetVars text ∷ []) n honest (touches.continues.still_tells tells) touches.continues.still_tells touches.continues.size journal (lawful, tt)
        (λ live. vars_state (done live)) (λ live. vars_stands (done live))
        (leaves_weaker v.view w.view _ _ vars_both (λ c two. (0, omega arith, in_vars c two.0 two.1, clean_of (v.view.size Disk) (c Disk) v.table (disk_steady c two.0).copies)))
        is now

    pub spans_vars : (w.failed ≡ true) ⊎ HasVariablesSet v w text → Spans v w
    spans_vars (inl failed) = vars_span 0 (λ live. cc) (inr (failed, refl)) (λ c image. in_vars c (vars_now c image).0 (vars_now c image).1)
    spans_vars (inr done) = vars_span 1 (λ live. done) (inl refl) (vars_ends done)

    pub pending_vars : HasVariablesSet v w text → HasOnlyPending w
    pending_vars done = record {
      disk = λ q un. pending_more v w (SetVars text) journal q (only.disk q (was q un));
      copies = λ q un. subst (λ (n : ℕ). OffCopies n q) (sym (touches.continues.size Disk)) (only.copies q (was q un));
      flash = done.synced;
      held = done.held;
    }
      where
        was : (q : ℕ) → w.view.unsynced Disk q → v.view.unsynced Disk q
        was q un = (touches.told tells).unsynced Disk q (λ other. cc) un
