-- A span from a board to itself, and how spans join that meet at a board that has not failed.
use Rattle.std.proofs.Common.{◌≡◌, inl, inr, ⊎_elim, ℕ, ◌+◌, List, [], ◌∷◌, ◌++◌, length, take, true, false, None, refl, sym, ◌∙◌, ap, subst, arith, append_assoc, length-append}
use Rattle.std.proofs.lemmas.List.{append-nil, append_cancel_left, take_all}
use Rattle.std.proofs.lemmas.Option.{slice_get_past}
use Rattle.bd_dev.specs.declared.plant.Area.{Area}
use Rattle.bd_dev.specs.declared.plant.Area.TheVariants.{Disk}
use Rattle.bd_dev.specs.Content.{Image}
use Rattle.bd_dev.specs.Plant.{IsHonest, IsImage}
use Rattle.bd_dev.specs.Runs.{LeavesOnly}
use Rattle.bd_dev.proofs.Joins.{leaves_now, leaves_then, reads_then}
use Rattle.bd_dev.proofs.Touch.{leaves_weaker, reads_of, reads_weaker}
use Rattle.cuts.specs.declared.effect.Effect.{Effect}
use Rattle.cuts.specs.States.{State, after, nothing, pending, pending_one}
use Rattle.cuts.specs.Cuts.{IsSomeCleanCut, MayBeCut, MayBeCutAt, MayBeSomeCut}
use Rattle.cuts.specs.Orderly.{AreLawful, AreOrderly}
use Rattle.cuts.specs.Spans.{HasOnlyPending, IsReached, Spans, Stands, Value, pending_of, state_of}
use Rattle.cuts.proofs.Parts.{clean_back, clean_front, may_back, some_back, some_front}
use Rattle.cuts.proofs.Runs.{after-append, lawful_then, orderly_then, pending-append}
use Rattle.cuts.proofs.Steady.{at_rest, some_at_rest, steady_now}

-- a span whose images are all clean
pub span_of : (v w : Value) (xs : List Effect) (n : ℕ) → IsHonest w.view → w.view.tells → (v.view.tells → w.view.tells) → ((a : Area) → w.view.size a ≡ v.view.size a) → w.journal ≡ v.journal ++ xs
    → AreLawful (v.view.size Disk) (state_of v) xs → (w.failed ≡ false → state_of w ≡ after (state_of v) xs) → (w.failed ≡ false → Stands w)
    → LeavesOnly v.view w.view (IsSomeCleanCut v.view.size (state_of v) (pending_of v) xs)
    → IsReached w.failed n xs → ((c : Image) → IsImage w.view c → MayBeCut v.view.size (state_of v) (pending_of v) xs n c) → Spans v w
span_of v w xs n honest tells still size journal lawful state stands crash is now = record {
  effects = xs;
  journal = journal;
  still_tells = still;
  size = size;
  lawful = lawful;
  state = state;
  stands = stands;
  crash = leaves_weaker v.view w.view _ _ crash (λ c some. (some.0, some.1, some.2));
  between = reads_of v.view w.view _ honest tells crash;
  count = n;
  count_is = is;
  now = now;
}

-- no effect
pub spans_now : (v : Value) → IsHonest v.view → v.view.tells → Stands v → HasOnlyPending v → Spans v v
spans_now v honest tells stands only = span_of v v [] 0 honest tells (λ t. t) (λ a. refl) (sym (append-nil v.journal)) tt (λ live. refl) (λ live. stands)
    (leaves_now v.view _ honest tells (λ c image. some_at_rest v c (steady_now v stands only c image)))
    (inl refl) (λ c image. at_rest v c (steady_now v stands only c image))

-- what is pending at the end of a span
pub pending_then : (a b : Value) (xs : List Effect) → b.journal ≡ a.journal ++ xs → pending_of b ≡ pending (pending_of a) xs
pending_then a b xs journal = ap (λ (l : List Effect). pending nothing l) journal ∙ pending-append nothing a.journal xs

-- an effect more
pub pending_more : (v w : Value) (x : Effect) → w.journal ≡ v.journal ++ x ∷ [] → (q : ℕ) → pending_one (pending_of v) x q → pending_of w q
pending_more v w x journal q pends = subst (λ (P : ℕ → Type 0). P q) (sym (pending_then v w (x ∷ []) journal)) pends

-- two spans that meet at a board that has not failed
pub spans_then : (a b c : Value) → Spans a b → Spans b c → b.failed ≡ false → Spans a c
spans_then a b c first second live = record {
  effects = xs ++ ys;
  journal = second.journal ∙ ap (λ (l : List Effect). l ++ ys) first.journal ∙ append_assoc a.journal xs ys;
  still_tells = λ t. second.still_tells (first.still_tells t);
  size = λ area. second.size area ∙ first.size area;
  lawful = lawful_then (size Disk) S xs ys first.lawful (subst (λ (T : Type 0). T) (λ i. AreLawful (sizes i Disk) (meets i) ys) second.lawful);
  state = λ still. second.state still ∙ ap (λ (s : State). after s ys) meets ∙ sym (after-append S xs ys);
  stands = second.stands;
  crash = leaves_then a.view b.view c.view (MayBeSomeCut size S P (xs ++ ys)) (MayBeSomeCut b.view.size (state_of b) (pending_of b) ys)
      (leaves_weaker a.view b.view _ _ first.crash (λ image some. some_front size S P xs ys image some))
      second.crash (λ image some. some_back size S P xs ys image (subst (λ (T : Type 0). T) (λ i. MayBeSomeCut (sizes i) (meets i) (same_pending i) ys image) some));
  between = reads_then a.view b.view c.view (IsSomeCleanCut size S P (xs ++ ys)) (IsSomeCleanCut b.view.size (state_of b) (pending_of b) ys)
      (reads_weaker a.view b.view _ _ first.between (λ image some. clean_front size S P xs ys image some))
      second.between (λ image some. clean_back size S P xs ys image (subst (λ (T : Type 0). T) (λ i. IsSomeCleanCut (sizes i) (meets i) (same_pending i) ys image) some));
  count = length xs + second.count;
  count_is = ⊎_elim (λ all. inl (omega (arith, all, length-append xs ys))) (λ but_one. inr (but_one.0, omega (arith, but_one.1, length-append xs ys))) second.count_is;
  now = λ image is. may_back size S P xs ys second.count image (subst (λ (T : Type 0). T) (λ i. MayBeCut (sizes i) (meets i) (same_pending i) ys second.count image) (second.now image is));
}
  where
    xs : List Effect
    xs = first.effects

    ys : List Effect
    ys = second.effects

    size : Area → ℕ
    size = a.view.size

    S : State
    S = state_of a

    P : ℕ → Type 0
    P = pending_of a

    sizes : b.view.size ≡ size
    sizes = λ i area. first.size area i

    meets : state_of b ≡ after S xs
    meets = first.state live

    same_pending : pending_of b ≡ pending P xs
    same_pending = pending_then a b xs first.journal

-- a span's effects are those that the journal tells
pub effects_are : (a b : Value) (span : Spans a b) (xs : List Effect) → b.journal ≡ a.journal ++ xs → span.effects ≡ xs
effects_are a b span xs journal = append_cancel_left a.journal span.effects xs (sym span.journal ∙ journal)

-- so the effects of a joint span are those of its two parts
pub effects_then : (a b c : Value) (first : Spans a b) (second : Spans b c) (span : Spans a c) → span.effects ≡ first.effects ++ second.effects
effects_then a b c first second span = effects_are a c span (first.effects ++ second.effects)
    (second.journal ∙ ap (λ (l : List Effect). l ++ second.effects) first.journal ∙ append_assoc a.journal first.effects second.effects)

-- and they are orderly where those are
pub orderly_join : (a b c : Value) (first : Spans a b) (second : Spans b c) (span : Spans a c) → b.failed ≡ false
    → AreOrderly (state_of a) (pending_of a) first.effects → AreOrderly (state_of b) (pending_of b) second.effects → AreOrderly (state_of a) (pending_of a) span.effects
orderly_join a b c first second span live one two = subst (λ (xs : List Effect). AreOrderly (state_of a) (pending_of a) xs) (sym (effects_then a b c first second span))
    (orderly_then (state_of a) (pending_of a) first.effects second.effects one
    (subst (λ (T : Type 0). T) (λ i. AreOrderly (first.state live i) (pending_then a b first.effects first.journal i) second.effects) two))

-- at a board that has not failed all effects are done
pub span_count : (a b : Value) (span : Spans a b) → b.failed ≡ false → span.count ≡ length span.effects
span_count a b span live = ⊎_elim (λ all. all) (λ but_one. let failed : b.failed ≡ true = but_one.0 in cc) span.count_is

pub span_ends : (a b : Value) (span : Spans a b) → b.failed ≡ false → (c : Image) → IsImage b.view c → MayBeCut a.view.size (state_of a) (pending_of a) span.effects (length span.effects) c
span_ends a b span live c image = subst (λ (k : ℕ). MayBeCut a.view.size (state_of a) (pending_of a) span.effects k c) (span_count a b span live) (span.now c image)

-- so each image is a cut at rest of what it reads
pub span_rests : (a b : Value) (span : Spans a b) → b.failed ≡ false → (c : Image) → IsImage b.view c → MayBeCutAt b.view.size (state_of b) (pending_of b) None c
span_rests a b span live c image = subst (λ (T : Type 0). T) same (span_ends a b span live c image)
  where
    xs : List Effect
    xs = span.effects

    all : take (length xs) xs ≡ xs
    all = take_all (length xs) xs (omega arith)

    sizes : a.view.size ≡ b.view.size
    sizes = λ i area. (sym (span.size area)) i

    same : MayBeCut a.view.size (state_of a) (pending_of a) xs (length xs) c ≡ MayBeCutAt b.view.size (state_of b) (pending_of b) None c
    same =
        (λ i. MayBeCutAt a.view.size (after (state_of a) (all i)) (pending (pending_of a) (all i)) (slice_get_past xs (length xs) (omega arith) i) c)
        ∙ (λ i. MayBeCutAt (sizes i) (sym (span.state live) i) (sym (pending_then a b xs span.journal) i) None c)
