-- What the calls make of the bytes of an area.
use Rattle.std.proofs.Common.{◌≡◌, ℕ, ◌+◌, ◌-◌, ◌*◌, ◌<◌, List, length, get_or, take, Bool, true, false, cond, refl, sym, ◌∙◌, ap, arith}
use Rattle.std.proofs.lemmas.List.{same_lists, get_or_default, take_more}
use Rattle.bd_dev.specs.declared.plant.Area.{Area}
use Rattle.bd_dev.specs.Content.{window}
use Rattle.bd_dev.proofs.Windows.{length-window, get_or-window}
use Rattle.bd_sim.specs.declared.journal.Noted.{Noted}
use Rattle.bd_sim.specs.declared.journal.Step.{Step}
use Rattle.bd_sim.specs.declared.journal.Step.TheVariants.{Write, FailedWrite, Sync}
use Rattle.bd_sim.specs.Journal.{State, same_area, in_range, is_sync, patch, step, after_each}
use Rattle.bd_sim.proofs.Steps.{after_each-push}

pub window_is : (z : ℕ → ℕ) (at n : ℕ) (out : List ℕ) → length out ≡ n → ((k : ℕ) → k < length out → get_or out k 0 ≡ z (at + k)) → out ≡ window z at n
window_is z at n out long is = same_lists out (window z at n) (long ∙ sym (length-window z at n)) (λ k d lt. get_or_default out k d 0 lt ∙ is k lt ∙ sym (get_or-window z at n k d (omega arith)))

pub overlay_step : (s : State) (area to : Area) (lba at k : ℕ) (bytes shown out : List ℕ) (x : Step) → shown ≡ bytes → x ≡ Write to lba bytes → same_area area to ≡ true → get_or out k 0 ≡ s.reads area (at + k)
    → cond (in_range (512 * lba) (length shown) (at + k)) (get_or shown (at + k - 512 * lba) 0) (get_or out k 0) ≡ (step s x).reads area (at + k)
unfolding patch
overlay_step s area to lba at k bytes shown out x bytes_are step_is same is =
    ap (λ (y : ℕ). cond (in_range (512 * lba) (length shown) (at + k)) (get_or shown (at + k - 512 * lba) 0) y) is
    ∙ ap (λ (l : List ℕ). cond (in_range (512 * lba) (length l) (at + k)) (get_or l (at + k - 512 * lba) 0) (s.reads area (at + k))) bytes_are
    ∙ sym (ap (λ (b : Bool). (cond b (patch (s.reads area) (512 * lba) bytes) (s.reads area)) (at + k)) same)
    ∙ sym (ap (λ (y : Step). (step s y).reads area (at + k)) step_is)

-- one noted call more of a list
pub take-step : (s : State) (xs : List Noted) (i : ℕ) (x : Noted) → i < length xs → x ≡ get_or xs i x → after_each s (take (i + 1) xs) ≡ step (after_each s (take i xs)) x.step
take-step s xs i x lt is =
    ap (λ (l : List Noted). after_each s l) (take_more xs i x lt) ∙ after_each-push s (take i xs) (get_or xs i x) ∙ ap (λ (y : Noted). step (after_each s (take i xs)) y.step) (sym is)

pub step-sync : (s : State) (x : Step) (area : Area) → is_sync x area ≡ true → (step s x).durable area ≡ (step s x).reads area
step-sync s (Write a lba bytes) area is = cc
step-sync s (FailedWrite a lba n) area is = cc
step-sync s (Sync a) area is = ap (λ (b : Bool). cond b (s.reads area) (s.durable area)) is

pub step-no_sync : (s : State) (x : Step) (area : Area) → is_sync x area ≡ false → (step s x).durable area ≡ s.durable area
step-no_sync s (Write a lba bytes) area is = refl
step-no_sync s (FailedWrite a lba n) area is = refl
step-no_sync s (Sync a) area is = ap (λ (b : Bool). cond b (s.reads area) (s.durable area)) is

-- what is durable after one noted call more
module _ (s : State) (xs : List Noted) (i : ℕ) (x : Noted) (area : Area) (lt : i < length xs) (is : x ≡ get_or xs i x) where
  pub durable-sync : (n : ℕ) → is_sync x.step area ≡ true → n ≡ i + 1 → (after_each s (take (i + 1) xs)).durable area ≡ (after_each s (take n xs)).reads area
  durable-sync n sync next =
      ap (λ (t : State). t.durable area) (take-step s xs i x lt is)
      ∙ step-sync (after_each s (take i xs)) x.step area sync
      ∙ ap (λ (t : State). t.reads area) (sym (take-step s xs i x lt is))
      ∙ ap (λ (m : ℕ). (after_each s (take m xs)).reads area) (sym next)

  pub durable-no_sync : is_sync x.step area ≡ false → (after_each s (take (i + 1) xs)).durable area ≡ (after_each s (take i xs)).durable area
  durable-no_sync no_sync = ap (λ (t : State). t.durable area) (take-step s xs i x lt is) ∙ step-no_sync (after_each s (take i xs)) x.step area no_sync
