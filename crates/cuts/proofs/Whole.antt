-- A whole call: an opening, and then a span.
use Rattle.std.proofs.Common.{◌≡◌, inl, inr, ⊎_elim, ℕ, ◌+◌, List, [], ◌∷◌, ◌++◌, length, length-append, take, slice_get, false, Option, Some, None, refl, sym, ◌∙◌, ap, subst, arith}
use Rattle.std.proofs.lemmas.List.{take_all}
use Rattle.std.proofs.lemmas.Option.{slice_get_past}
use Rattle.bd_dev.specs.declared.plant.Area.{Area}
use Rattle.bd_dev.specs.declared.plant.Area.TheVariants.{Disk}
use Rattle.bd_dev.specs.Content.{Image}
use Rattle.bd_dev.specs.Plant.{View, IsImage}
use Rattle.bd_dev.proofs.Joins.{leaves_then, reads_then}
use Rattle.bd_dev.proofs.Touch.{leaves_weaker, reads_weaker}
use Rattle.gpt_copy.specs.declared.table.Which.TheVariants.{Primary}
use Rattle.storage_model.specs.Choices.{boots_in, boots_of}
use Rattle.storage_model.specs.Copies.{IsCleanOpening}
use Rattle.storage_model.specs.Soundness.{IsSoundBoard, IsSoundTable}
use Rattle.storage_model.specs.Variables.{IsText}
use Rattle.storage_model.proofs.BootLemmas.{sound_boots}
use Rattle.cuts.specs.declared.effect.Effect.{Effect}
use Rattle.cuts.specs.declared.effect.Effect.TheVariants.{Put, Sync, Table as SetTable, Vars as SetVars}
use Rattle.cuts.specs.States.{State, after, after_one, nothing, pending, pending_one}
use Rattle.cuts.specs.Cuts.{IsCutAt, IsSomeCleanCut, MayBeCut, MayBeCutAt, MayBeSomeCut, stored_of}
use Rattle.cuts.specs.Law.{BootsWhole, IsStart, state_in}
use Rattle.cuts.specs.Orderly.{AreLawful, AreOrderly, IsLawful}
use Rattle.cuts.specs.Spans.{IsSettledFrom, MayBeOpeningCut, Opens, Spans, Value, pending_of, state_of}
use Rattle.cuts.specs.Whole.{HoldsState, OpensAndChanges, PutsNothing}
use Rattle.cuts.proofs.Beginning.{image_starts}
use Rattle.cuts.proofs.Booting.{boots}
use Rattle.cuts.proofs.Copying.{copy_fits, table_of_both}
use Rattle.cuts.proofs.Images.{image_kept}
use Rattle.cuts.proofs.Joins.{effects_are, span_ends}
use Rattle.cuts.proofs.Parts.{may_back}
use Rattle.cuts.proofs.Patches.{patched_out}
use Rattle.cuts.proofs.Places.{entry_off}
use Rattle.cuts.proofs.Reading.{image_off}
use Rattle.cuts.proofs.Runs.{after-append, lawful_back, pending-append}
use Rattle.cuts.proofs.Starts.{first_inside}

-- an opening's cut is a cut of no effects
pub opening_boots : (size : Area → ℕ) (z : Image) (sound : IsSoundBoard size z) (c : Image) → MayBeOpeningCut size z c → IsCleanOpening (size Disk) z c
    → BootsWhole size (state_in size z sound) (state_in size z sound) c
opening_boots size z sound c cut clean = boots size (state_in size z sound) nothing [] (image_starts size z sound) tt tt 0 (omega arith) c (record {
  table = cut.table clean ∙ sound.disk.table;
  variables = cut.variables ∙ sound.variables.is;
  sectors = λ q lt off pends runs. image_off (size Disk) (z Disk) (c Disk) q off (cut.sectors q lt off);
})

-- the end of a run
module _ (size : Area → ℕ) (s : State) (U : ℕ → Type 0) (xs : List Effect) (c : Image) where
  whole : take (length xs) xs ≡ xs
  whole = take_all (length xs) xs (omega arith)

  ends : (G : State → (ℕ → Type 0) → Option Effect → Type 0)
      → G (after s (take (length xs) xs)) (pending U (take (length xs) xs)) (slice_get xs (length xs)) ≡ G (after s xs) (pending U xs) None
  ends G = λ i. G (after s (whole i)) (pending U (whole i)) (slice_get_past xs (length xs) (omega arith) i)

  -- there nothing runs
  pub rests : MayBeCut size s U xs (length xs) c → MayBeCutAt size (after s xs) (pending U xs) None c
  rests cut = subst (λ (T : Type 0). T) (ends (λ t V x. MayBeCutAt size t V x c)) cut

  -- so both copies stand, and it boots
  pub boots_end : IsStart size s U → AreLawful (size Disk) s xs → AreOrderly s U xs → MayBeCut size s U xs (length xs) c → BootsWhole size s (after s xs) c
  boots_end start lawful orderly cut =
      let at = rests cut in
      let here : IsCutAt size (after s xs) (pending U xs) None c =
      record { table = table_of_both (size Disk) (c Disk) (after s xs).table at.table; variables = at.variables; sectors = at.sectors } in
      subst (λ (l : List Effect). BootsWhole size s (after s l) c) whole
      (boots size s U xs start lawful orderly (length xs) (omega arith) c (subst (λ (T : Type 0). T) (sym (ends (λ t V x. IsCutAt size t V x c))) here))

own_settles : (own : List Effect) → PutsNothing own → pending nothing own ≡ nothing
own_settles [] none = refl
own_settles (Put lba bytes ∷ own) none = absurd none.0
own_settles (Sync ∷ own) none = own_settles own none.1
own_settles (SetTable t ∷ own) none = own_settles own none.1
own_settles (SetVars text ∷ own) none = own_settles own none.1

-- nothing is pending once a run has synced, and put no sectors since
pub settles : (U : ℕ → Type 0) (xs own : List Effect) → PutsNothing own → pending U (xs ++ Sync ∷ own) ≡ nothing
settles U xs own last = pending-append U xs (Sync ∷ own) ∙ own_settles own last

pub holds_state : (size : Area → ℕ) (s : State) (U : ℕ → Type 0) (xs own : List Effect) → PutsNothing own → (c : Image)
    → MayBeCut size s U (xs ++ Sync ∷ own) (length (xs ++ Sync ∷ own)) c → HoldsState size (after s (xs ++ Sync ∷ own)) c
holds_state size s U xs own last c cut =
    let at = rests size s U (xs ++ Sync ∷ own) c cut in
    record {
      table = at.table;
      variables = at.variables;
      sectors = λ q lt off. at.sectors q lt off (λ pends. subst (λ (V : ℕ → Type 0). V q) (settles U xs own last) pends) (λ none. none);
    }

-- an image that holds all of a sound state is sound, with the same table and variables
held_sound : (size : Area → ℕ) (s : State) (c : Image) → HoldsState size s c → IsSoundTable s.disk s.table → IsText s.text → IsSoundBoard size c
held_sound size s c holds sound text = record {
  table = s.table;
  disk = record {
    table = table_of_both (size Disk) (c Disk) s.table holds.table;
    sound = record {
      sane = sound.sane;
      index = sound.index;
      onie = sound.onie;
      one = sound.one;
      image = image_kept s.disk (c Disk) sound.onie
          (let free = entry_off (size Disk) s.table sound.index sound.onie (copy_fits Primary (size Disk) (c Disk) s.table holds.table.primary) sound.sane sound.one.has.has sound.onie.first (first_inside s.disk s.table sound) in
          holds.sectors sound.onie.first free.within free.off)
          sound.image;
    };
  };
  kept = stored_of s;
  variables = record { is = holds.variables; text = text };
}

-- so it boots what they say
pub held_boots : (size : Area → ℕ) (s : State) (c : Image) → HoldsState size s c → IsSoundTable s.disk s.table → IsText s.text → boots_in size c ≡ boots_of s.table s.text
unfolding held_sound
held_boots size s c holds sound text = sound_boots size c (held_sound size s c holds sound text)

-- behind an effect, or while it runs

still_runs : (size : Area → ℕ) (s : State) (U : ℕ → Type 0) (x : Effect) (c : Image) → IsLawful (size Disk) s x → MayBeCutAt size (after_one s x) (pending_one U x) None c → MayBeCutAt size s U (Some x) c
still_runs size s U (Put lba bytes) c lawful cut = record {
  table = cut.table;
  variables = cut.variables;
  sectors = λ q lt off pends runs k below.
      cut.sectors q lt off (λ both. ⊎_elim pends runs both) (λ none. none) k below ∙ patched_out s.disk lba bytes q lawful.whole runs k below;
}
still_runs size s U Sync c lawful cut = record { table = cut.table; variables = cut.variables; sectors = λ q lt off pends runs. cut.sectors q lt off (λ none. none) (λ none. none) }
still_runs size s U (SetTable t) c lawful cut = record {
  table = λ clean. inr (table_of_both (size Disk) (c Disk) t cut.table);
  variables = cut.variables;
  sectors = λ q lt off pends runs. cut.sectors q lt off (λ none. none) (λ none. none);
}
still_runs size s U (SetVars text) c lawful cut = record { table = cut.table; variables = inr cut.variables; sectors = λ q lt off pends runs. cut.sectors q lt off pends (λ none. none) }

pub last_runs : (size : Area → ℕ) (s : State) (U : ℕ → Type 0) (xs : List Effect) (x : Effect) → AreLawful (size Disk) s (xs ++ x ∷ []) → (c : Image)
    → MayBeCut size s U (xs ++ x ∷ []) (length (xs ++ x ∷ [])) c → MayBeCut size s U (xs ++ x ∷ []) (length xs) c
last_runs size s U xs x lawful c cut =
    let at = rests size s U (xs ++ x ∷ []) c cut in
    let behind : MayBeCutAt size (after_one (after s xs) x) (pending_one (pending U xs) x) None c =
    subst (λ (T : Type 0). T) (λ i. MayBeCutAt size (after-append s xs (x ∷ []) i) (pending-append U xs (x ∷ []) i) None c) at in
    let here : MayBeCut size (after s xs) (pending U xs) (x ∷ []) 0 c =
    still_runs size (after s xs) (pending U xs) x c (lawful_back (size Disk) s xs (x ∷ []) lawful).0 behind in
    let none : length xs + 0 ≡ length xs = omega arith in
    subst (λ (k : ℕ). MayBeCut size s U (xs ++ x ∷ []) k c) none (may_back size s U xs (x ∷ []) 0 c here)

-- the same of spans
module _ (a b : Value) (span : Spans a b) where
  -- where a board failed in an effect, those before it are done
  pub span_before : (xs : List Effect) (x : Effect) → b.journal ≡ a.journal ++ (xs ++ x ∷ []) → (c : Image) → IsImage b.view c
      → MayBeCut a.view.size (state_of a) (pending_of a) (xs ++ x ∷ []) (length xs) c
  span_before xs x journal c image =
      let same = effects_are a b span (xs ++ x ∷ []) journal in
      let longer : length span.effects ≡ length (xs ++ x ∷ []) = ap length same in
      let here : MayBeCut a.view.size (state_of a) (pending_of a) (xs ++ x ∷ []) span.count c =
      subst (λ (l : List Effect). MayBeCut a.view.size (state_of a) (pending_of a) l span.count c) same (span.now c image) in
      ⊎_elim
      (λ all. last_runs a.view.size (state_of a) (pending_of a) xs x (subst (λ (l : List Effect). AreLawful (a.view.size Disk) (state_of a) l) same span.lawful) c
      (subst (λ (k : ℕ). MayBeCut a.view.size (state_of a) (pending_of a) (xs ++ x ∷ []) k c) (all ∙ longer) here))
      (λ but_one. (let before : span.count ≡ length xs = (let one = but_one.1 in omega (arith, one, longer, length-append xs (x ∷ []))) in
      subst (λ (k : ℕ). MayBeCut a.view.size (state_of a) (pending_of a) (xs ++ x ∷ []) k c) before here))
      span.count_is

  -- success stays
  pub span_holds : b.failed ≡ false → (xs own : List Effect) → b.journal ≡ a.journal ++ (xs ++ Sync ∷ own) → PutsNothing own → (c : Image) → IsImage b.view c
      → HoldsState a.view.size (state_of b) c
  span_holds live xs own journal last c image =
      let same = effects_are a b span (xs ++ Sync ∷ own) journal in
      let here = subst (λ (l : List Effect). MayBeCut a.view.size (state_of a) (pending_of a) l (length l) c) same (span_ends a b span live c image) in
      subst (λ (s : State). HoldsState a.view.size s c) (sym (span.state live ∙ ap (after (state_of a)) same))
      (holds_state a.view.size (state_of a) (pending_of a) xs own last c here)

-- an opening, and then a span
module _ (old : View) (b c : Value) (sizes : (a : Area) → b.view.size a ≡ old.size a) (fresh : b.journal ≡ []) (opens : Opens old b.view) (span : Spans b c) where
  some_cut : (image : Image) → MayBeSomeCut b.view.size (state_of b) (pending_of b) span.effects image → MayBeSomeCut old.size (state_of b) nothing span.effects image
  some_cut image cut = subst (λ (T : Type 0). T) (λ i. MayBeSomeCut (λ a. sizes a i) (state_of b) (pending nothing (fresh i)) span.effects image) cut

  clean_cut : (image : Image) → IsSomeCleanCut b.view.size (state_of b) (pending_of b) span.effects image → IsSomeCleanCut old.size (state_of b) nothing span.effects image
  clean_cut image cut = subst (λ (T : Type 0). T) (λ i. IsSomeCleanCut (λ a. sizes a i) (state_of b) (pending nothing (fresh i)) span.effects image) cut

  pub opens_and_changes : (m : ℕ) → IsSettledFrom old b.view m → OpensAndChanges old c.view (state_of b) span.effects
  opens_and_changes m settled = record {
    crash = leaves_then old b.view c.view _ _ (leaves_weaker old b.view _ _ opens.crash (λ image. ⊎_elim (λ was. inl was) (λ cut. inr (inl cut)))) span.crash
        (λ image cut. inr (inr (some_cut image cut)));
    between = reads_then old b.view c.view _ _ (reads_weaker old b.view _ _ opens.between (λ image cut. inl cut)) span.between (λ image cut. inr (clean_cut image cut));
    settled = m;
    from = settled.from;
    to = omega (arith, settled.to, span.crash.later);
    cuts = λ image left. ⊎_elim (λ was. inl (settled.cuts image was)) (λ cut. inr (some_cut image cut)) (span.crash.before m image settled.to left);
  }
