-- What the calls of a board keep: a span from the board before, and that it is live again.
use Rattle.std.proofs.Common.{◌≡◌, ◌⊎◌, inl, inr, ⊎_elim, ℕ, ◌+◌, ◌-◌, ◌*◌, ◌/◌, ◌≤◌, ◌∷◌, [], ◌++◌, List, true, false, length, refl, sym, ◌∙◌, ap, subst, arith}
use Rattle.bd_dev.specs.declared.plant.Area.TheVariants.{Disk, Flash}
use Rattle.bd_dev.specs.Content.{window}
use Rattle.bd_dev.specs.Plant.{View, IsHonest, IsSynced}
use Rattle.boot_vars.specs.Vars.{FitsVars, Vars}
use Rattle.cuts.specs.declared.effect.Effect.TheVariants.{Put, Sync, Table as SetTable}
use Rattle.storage_model.specs.Copies.{IsCleanBetween, IsEitherTable, ReadsBoth, TouchesCopies}
use Rattle.cuts.specs.Orderly.{IsLawfulPut, IsLawfulTable}
use Rattle.cuts.specs.Spans.{HasOnlyPending, Spans, Stands}
use Rattle.cuts.proofs.Changes.{HasTableSet, pending_table, spans_table}
use Rattle.cuts.proofs.Joins.{spans_now}
use Rattle.cuts.proofs.Starts.{fits_next}
use Rattle.cuts.proofs.Steady.{whole_area}
use Rattle.cuts.proofs.Steps.{HasSynced, HoldsSame, outside_put, pending_look, pending_put, pending_sync, spans_look, spans_put, spans_sync}
use Rattle.gpt_copy.specs.declared.table.Table.{Table}
use Rattle.gpt_copy.specs.Copy.{FitsDisk}
use Rattle.bd_dev.specs.Runs.{Continues, LeavesOnly, Looks, ReadsOnly}
use Rattle.bd_dev.specs.Touching.{Touches}
use Rattle.bd_dev.proofs.Touch.{reads_weaker}
use Rattle.slot_pair.specs.Pair.{IsKept}
use Rattle.storage_model.specs.Entries.{IsSane}
use Rattle.slot_model.specs.Slots.{pair_sectors}
use Rattle.storage_model.specs.Variables.{kept_in}
use Rattle.board.specs.declared.board.Held.{Held}
use Rattle.board.specs.Held.{IsLive, Keeps, disk_of, value_of}

-- variables fit a plant whose flash reads as before
pub fits_same : (v w : View) (vars : Vars) → Continues v w → (v.tells → w.reads Flash ≡ v.reads Flash) → FitsVars v vars → FitsVars w vars
fits_same v w vars on same fits = record {
  pair = record {
    room = subst (λ (n : ℕ). vars.pair.base + pair_sectors 16 ≤ n) (sym (on.size vars.pair.area)) fits.pair.room;
    kept = λ t.
        let told = on.tells t in
        let reads : v.reads vars.pair.area ≡ w.reads vars.pair.area = ap v.reads fits.area ∙ sym (same told) ∙ ap w.reads (sym fits.area) in
        subst (λ (z : ℕ → ℕ). IsKept 16 z vars.pair) reads (fits.pair.kept told);
  };
  area = fits.area;
  base = fits.base;
  kept = λ t. let told = on.tells t in (λ i. kept_in (on.size Flash i) (same told i)) ∙ fits.kept told;
}

-- what is kept, by its parts
keeps_of : (v w : View) (h j : Held) → Continues v w → (v.tells → Spans (value_of v h) (value_of w j)) → (j.failed ≡ false → FitsDisk (v.size Disk - 1) j.table)
    → (j.failed ≡ false → IsSane j.table) → (j.failed ≡ false → FitsVars w j.vars) → (j.failed ≡ false → v.tells → HasOnlyPending (value_of w j)) → Keeps v h w j
keeps_of v w h j on span fits sane variables pending = record {
  continues = on;
  live = λ live. record {
    live = live;
    fits = subst (λ (n : ℕ). FitsDisk (n - 1) j.table) (sym (on.size Disk)) (fits live);
    sane = sane live;
    variables = variables live;
    stands = λ t. (span (on.tells t)).stands live;
    pending = λ t. pending live (on.tells t);
  };
  span = span;
}

-- the table and the variables are the same
held_same : (v w : View) (h j : Held) → j.table ≡ h.table → j.vars ≡ h.vars → HoldsSame (value_of v h) (value_of w j)
held_same v w h j table vars = record { table = table; text = ap (λ (x : Vars). x.text) vars; number = ap (λ (x : Vars). x.pair.number) vars }

-- nothing was done
pub keeps_now : (v : View) (h : Held) → IsHonest v → IsLive v h → Keeps v h v h
keeps_now v h honest live = record {
  continues = record { size = λ a. refl; tells = λ t. t; still_tells = λ t. t; later = omega arith };
  live = λ ok. live;
  span = λ t. spans_now (value_of v h) honest t (live.stands t) (live.pending t);
}

pub keeps_still : (v : View) (h j : Held) → IsHonest v → IsLive v h → j ≡ h → Keeps v h v j
keeps_still v h j honest live same = subst (Keeps v h v) (sym same) (keeps_now v h honest live)

-- what is kept is the same, but for memory that was set aside
pub keeps_held : (v : View) (h j : Held) → IsHonest v → IsLive v h → j.table ≡ h.table → j.vars ≡ h.vars → j.journal.effects ≡ h.journal.effects → j.failed ≡ h.failed → Keeps v h v j
keeps_held v h j honest live table vars journal failed = record {
  continues = record { size = λ a. refl; tells = λ t. t; still_tells = λ t. t; later = omega arith };
  live = λ ok. record {
    live = ok;
    fits = subst (FitsDisk (v.size Disk - 1)) (sym table) live.fits;
    sane = subst IsSane (sym table) live.sane;
    variables = subst (FitsVars v) (sym vars) live.variables;
    stands = λ t. subst Stands same (live.stands t);
    pending = λ t. subst HasOnlyPending same (live.pending t);
  };
  span = λ t. subst (Spans (value_of v h)) same (spans_now (value_of v h) honest t (live.stands t) (live.pending t));
}
  where
    same : value_of v h ≡ value_of v j
    same = λ i. record {
      view = v;
      disk = disk_of v j;
      table = sym table i;
      text = (sym vars i).text;
      number = (sym vars i).pair.number;
      journal = sym journal i;
      failed = sym failed i;
    }

-- a call that only reads, which may have failed
pub keeps_look : (v w : View) (h j : Held) → IsHonest w → IsLive v h → Looks v w → j.table ≡ h.table → j.vars ≡ h.vars → j.journal ≡ h.journal → Keeps v h w j
keeps_look v w h j honest live looks table vars journal = keeps_of v w h j looks.continues
    (λ t. spans_look (value_of v h) (value_of w j) honest t (live.stands t) (live.pending t) looks (held_same v w h j table vars) (λ i. (looks.told t).only.reads i Disk) (ap (λ n. n.effects) journal))
    (λ ok. subst (FitsDisk (v.size Disk - 1)) (sym table) live.fits) (λ ok. subst IsSane (sym table) live.sane)
    (λ ok. subst (FitsVars w) (sym vars) (fits_same v w h.vars looks.continues (λ t i. (looks.told t).only.reads i Flash) live.variables))
    (λ ok t. pending_look (value_of v h) (value_of w j) honest t (live.stands t) (live.pending t) looks (held_same v w h j table vars) (λ i. (looks.told t).only.reads i Disk) (ap (λ n. n.effects) journal))

-- sectors were put, or the put failed
pub keeps_put : (v w : View) (h j : Held) (lba : ℕ) (bytes : List ℕ) → IsHonest w → IsLive v h → IsLawfulPut (v.size Disk) lba bytes → Touches Disk lba (length bytes / 512) v w
    → j.table ≡ h.table → j.vars ≡ h.vars → j.journal.effects ≡ h.journal.effects ++ Put lba bytes ∷ []
    → (v.tells → (j.failed ≡ true) ⊎ (window (w.reads Disk) (512 * lba) (length bytes) ≡ bytes)) → Keeps v h w j
keeps_put v w h j lba bytes honest live lawful touches table vars journal outcome = keeps_of v w h j touches.continues
    (λ t. spans_put (value_of v h) (value_of w j) honest t (live.stands t) (live.pending t) lba bytes lawful touches (held_same v w h j table vars) journal
    (⊎_elim (λ failed. inl failed) (λ is. inr (record { outside = λ q out. (touches.told t).reads Disk q (outside_put lba bytes q out); inside = is })) (outcome t)))
    (λ ok. subst (FitsDisk (v.size Disk - 1)) (sym table) live.fits) (λ ok. subst IsSane (sym table) live.sane)
    (λ ok. subst (FitsVars w) (sym vars) (fits_same v w h.vars touches.continues (λ t. whole_area (v.reads Flash) (w.reads Flash) (λ s. (touches.told t).reads Flash s (λ other. cc))) live.variables))
    (λ ok t. pending_put (value_of v h) (value_of w j) honest t (live.stands t) (live.pending t) lba bytes lawful touches (held_same v w h j table vars) journal (λ q pends k lt. refl))

-- what was put was made durable, or the sync failed
pub keeps_sync : (v w : View) (h j : Held) → IsHonest w → IsLive v h → Touches Disk 0 0 v w → (v.tells → w.reads ≡ v.reads)
    → j.table ≡ h.table → j.vars ≡ h.vars → j.journal.effects ≡ h.journal.effects ++ Sync ∷ []
    → ((j.failed ≡ true) ⊎ (v.tells → IsSynced w Disk)) → Keeps v h w j
keeps_sync v w h j honest live touches reads table vars journal outcome = keeps_of v w h j touches.continues
    (λ t. spans_sync (value_of v h) (value_of w j) honest t (live.stands t) (live.pending t) (reads t) touches (held_same v w h j table vars) journal (⊎_elim (λ failed. inl failed) (λ synced. inr (durable t (synced t))) outcome))
    (λ ok. subst (FitsDisk (v.size Disk - 1)) (sym table) live.fits) (λ ok. subst IsSane (sym table) live.sane)
    (λ ok. subst (FitsVars w) (sym vars) (fits_same v w h.vars touches.continues (λ t i. reads t i Flash) live.variables))
    (λ ok t. pending_sync (value_of v h) (value_of w j) honest t (live.stands t) (live.pending t) (reads t) touches (held_same v w h j table vars) journal
    (⊎_elim (λ failed. absurd (lost failed ok)) (λ synced. durable t (synced t)) outcome))
  where
    durable : v.tells → IsSynced w Disk → HasSynced (value_of v h) (value_of w j)
    durable t synced = record { disk = λ i. reads t i Disk; synced = synced; held = λ q pends k lt. refl }

    lost : j.failed ≡ true → j.failed ≡ false → ⊥
    lost yes_failed not_failed = cc

-- the table was set, or that failed
pub keeps_table : (v w : View) (h j : Held) (new : Table) → IsHonest w → IsLive v h → IsLawfulTable h.table new → TouchesCopies v w
    → (v.tells → LeavesOnly v w (λ c. IsCleanBetween (v.size Disk) h.table new c → IsEitherTable (v.size Disk) h.table new c))
    → (v.tells → ReadsOnly v w (λ c. IsCleanBetween (v.size Disk) h.table new c × IsEitherTable (v.size Disk) h.table new c))
    → j.vars ≡ h.vars → j.journal.effects ≡ h.journal.effects ++ SetTable new ∷ []
    → ((j.failed ≡ true) ⊎ ((j.table ≡ new) × (v.tells → IsSynced w Disk × ReadsBoth (v.size Disk) (w.reads Disk) new))) → Keeps v h w j
keeps_table v w h j new honest live lawful touches crash between vars journal outcome = keeps_of v w h j touches.continues
    (λ t. spans_table (value_of v h) (value_of w j) honest t (live.stands t) (live.pending t) new lawful touches (crash t) (reads_weaker v w _ _ (between t) (λ c both. both.0)) text number journal
    (⊎_elim (λ failed. inl failed) (λ set. inr (table_set t set)) outcome))
    (λ ok. subst (FitsDisk (v.size Disk - 1)) (sym (is_set ok).0) (fits_next (v.size Disk - 1) h.table new live.fits lawful)) (λ ok. subst IsSane (sym (is_set ok).0) lawful.sane)
    (λ ok. subst (FitsVars w) (sym vars) (fits_same v w h.vars touches.continues (λ t. whole_area (v.reads Flash) (w.reads Flash) (λ s. (touches.told t).reads Flash s (λ other. cc))) live.variables))
    (λ ok t. pending_table (value_of v h) (value_of w j) honest t (live.stands t) (live.pending t) new lawful touches (crash t) (reads_weaker v w _ _ (between t) (λ c both. both.0)) text number journal
    (table_set t (is_set ok)))
  where
    table_set : v.tells → (j.table ≡ new) × (v.tells → IsSynced w Disk × ReadsBoth (v.size Disk) (w.reads Disk) new) → HasTableSet (value_of v h) (value_of w j) new
    table_set t set = record {
      table = set.0;
      synced = (set.1 t).0;
      reads = (set.1 t).1;
      disk = λ q off. (touches.told t).reads Disk q (λ is. off);
      held = λ q pends k lt. refl;
    }

    text : j.vars.text ≡ h.vars.text
    text = ap (λ (x : Vars). x.text) vars

    number : j.vars.pair.number ≡ h.vars.pair.number
    number = ap (λ (x : Vars). x.pair.number) vars

    lost : j.failed ≡ true → j.failed ≡ false → ⊥
    lost yes_failed not_failed = cc

    is_set : j.failed ≡ false → (j.table ≡ new) × (v.tells → IsSynced w Disk × ReadsBoth (v.size Disk) (w.reads Disk) new)
    is_set ok = ⊎_elim (λ failed. absurd (lost failed ok)) (λ set. set) outcome
