-- What a crash leaves of a pair while both its slots are closed, the current one last.
use Rattle.std.proofs.Common.{◌≡◌, ◌⊎◌, inl, inr, ⊎_elim, ℕ, ◌+◌, ◌<◌, ◌≤◌, Bool, not, true, false, Option, None, refl, sym, ◌∙◌, ap, subst, arith}
use Rattle.bd_dev.specs.declared.plant.Area.{Area}
use Rattle.bd_dev.specs.Content.{Image}
use Rattle.bd_dev.specs.Plant.{View, IsSynced}
use Rattle.bd_dev.specs.Runs.{LeavesOnly, Looks}
use Rattle.bd_dev.specs.Touching.{Touches}
use Rattle.bd_dev.proofs.Joins.{leaves_then}
use Rattle.bd_dev.proofs.Touch.{leaves_both, leaves_weaker, touch_look, touch_then}
use Rattle.slot_pair.specs.Choice.{is_second}
use Rattle.slot_pair.specs.Putting.{IsEither}
use Rattle.slot_pair.proofs.Currents.{by_none, by_pick, is_current, pick, same_current}
use Rattle.slot_pair.proofs.Frames.{gate_frame, slot_frame, slot_shut}
use Rattle.slot_pair.proofs.Pairs.{number_of}
use Rattle.slot_pair.proofs.Replacing.{apart, touch_gate, touch_pair, while_closing}
use Rattle.slot_model.specs.Slots.{current, is_open_gate, pair_sectors, slot, slot_lba}

-- only reads yet
pub only_looked : (n : ℕ) (area : Area) (base : ℕ) (some : 0 < n) (u b : View) → u.tells → IsSynced u area → Looks u b
    → LeavesOnly u b (λ c. IsEither None (current n (u.reads area) base) (current n (c area) base))
only_looked n area base some u b tells synced looks = leaves_weaker u b _ _ (looks.told tells).crash (λ c image. inr (same_current n area base some u synced c image))

-- reads leave nothing unsynced
pub looked_synced : (area : Area) (u b : View) → (u.tells → IsSynced u area) → Looks u b → b.tells → IsSynced b area
looked_synced area u b synced looks now s un =
    let tells = looks.continues.tells now in
    synced tells s ((looks.told tells).only.unsynced.unsynced area s un)

-- the slot that was chosen by two reads holds what is current
pub chosen_by : (n : ℕ) (area : Area) (base : ℕ) (u a : View) (first other : Option ℕ) (second : Bool) → Looks u a
    → (u.tells → first ≡ number_of (slot n (u.reads area) base)) → (a.tells → other ≡ number_of (slot n (a.reads area) (base + n + 1))) → second ≡ is_second first other
    → u.tells → current n (u.reads area) base ≡ slot n (u.reads area) (slot_lba n base second)
chosen_by n area base u a first other second looks one two is tells =
    is_current n (u.reads area) base first other second (one tells)
    (two (looks.continues.still_tells tells) ∙ ap (λ (z : Image). number_of (slot n (z area) (base + n + 1))) (looks.told tells).only.reads) is

both_gates : (n base : ℕ) (z : ℕ → ℕ) (second : Bool) → is_open_gate z (slot_lba n base second) ≡ false → is_open_gate z (slot_lba n base (not second)) ≡ false → (which : Bool) → is_open_gate z (slot_lba n base which) ≡ false
both_gates n base z true this other true = this
both_gates n base z true this other false = other
both_gates n base z false this other true = other
both_gates n base z false this other false = this

module _ (n : ℕ) (area : Area) (base : ℕ) (second : Bool) (gate : ℕ) (some : 0 < n) (u b v : View) (synced : u.tells → IsSynced u area) (looks : Looks u b)
    (place : gate ≡ slot_lba n base (not second)) (closing : Touches area gate 1 b v) (unwritten : b.tells → is_open_gate (b.reads area) gate ≡ false → Looks b v) where
  synced_then : u.tells → IsSynced b area
  synced_then tells = looked_synced area u b synced looks (looks.continues.still_tells tells)

  closing_there : Touches area (slot_lba n base (not second)) (n + 1) b v
  closing_there = touch_gate n area _ b v (subst (λ (at : ℕ). Touches area at 1 b v) place closing)

  -- the other slot is closed: what is current stays
  pub touch_first : Touches area base (pair_sectors n) u v
  touch_first = touch_then area base (pair_sectors n) u b v (touch_look area base (pair_sectors n) u b looks) (touch_pair n area base (not second) b v closing_there)

  module _ (chosen : u.tells → current n (u.reads area) base ≡ slot n (u.reads area) (slot_lba n base second)) where
    chosen_then : u.tells → current n (b.reads area) base ≡ slot n (b.reads area) (slot_lba n base second)
    chosen_then tells = subst (λ (z : Image). current n (z area) base ≡ slot n (z area) (slot_lba n base second)) (sym (looks.told tells).only.reads) (chosen tells)

    stays : u.tells → (c : ℕ → ℕ) → slot n c (slot_lba n base second) ≡ slot n (b.reads area) (slot_lba n base second)
        → IsEither None (slot n (b.reads area) (slot_lba n base (not second))) (slot n c (slot_lba n base (not second))) → current n c base ≡ current n (b.reads area) base
    stays tells c same (inl none) = by_none n base second c none ∙ same ∙ sym (chosen_then tells)
    stays tells c same (inr as_before) = by_pick n base second c ∙ (λ i. pick second (same i) (as_before i)) ∙ sym (by_pick n base second (b.reads area))

    pub crash_first : u.tells → LeavesOnly u v (λ c. IsEither None (current n (u.reads area) base) (current n (c area) base))
    crash_first tells =
        let now = looks.continues.still_tells tells in
        let there = subst (λ (at : ℕ). LeavesOnly b v (λ c. IsEither None (slot n (b.reads area) at) (slot n (c area) at))) place (while_closing n area gate some b v now (synced_then tells) (closing.told now) (unwritten now)) in
        leaves_then u b v _ _ (only_looked n area base some u b tells (synced tells) looks) (leaves_both b v _ _ (closing_there.told now).crash there)
        (λ c both. inr (stays tells (c area) (slot_frame n (b.reads area) (c area) (slot_lba n base second) some (λ s le lt. both.0 area s (apart n area base second s le lt) (synced_then tells s))) both.1
        ∙ ap (λ (z : Image). current n (z area) base) (looks.told tells).only.reads))

    module _ (w : View) (gate' : ℕ) (place' : gate' ≡ slot_lba n base second) (closed : b.tells → is_open_gate (v.reads area) gate ≡ false) (durable : b.tells → IsSynced v area)
        (closing' : Touches area gate' 1 v w) (unwritten' : v.tells → is_open_gate (v.reads area) gate' ≡ false → Looks v w) where
      closing_here : Touches area (slot_lba n base second) (n + 1) v w
      closing_here = touch_gate n area _ v w (subst (λ (at : ℕ). Touches area at 1 v w) place' closing')

      pub touch_second : Touches area base (pair_sectors n) u w
      touch_second = touch_then area base (pair_sectors n) u v w touch_first (touch_pair n area base second v w closing_here)

      shut_there : b.tells → is_open_gate (v.reads area) (slot_lba n base (not second)) ≡ false
      shut_there tells = subst (λ (at : ℕ). is_open_gate (v.reads area) at ≡ false) place (closed tells)

      -- what is current was not touched by the first closing
      current_then : u.tells → slot n (v.reads area) (slot_lba n base second) ≡ current n (u.reads area) base
      current_then tells =
          let now = looks.continues.still_tells tells in
          slot_frame n (b.reads area) (v.reads area) (slot_lba n base second) some (λ s le lt. (closing_there.told now).reads area s (apart n area base second s le lt))
          ∙ sym (chosen_then tells) ∙ ap (λ (z : Image). current n (z area) base) (looks.told tells).only.reads

      -- the gate of the other slot lies outside the current one
      gate_apart : (s : ℕ) → s ≡ slot_lba n base (not second) → (s < slot_lba n base second) ⊎ (slot_lba n base second + (n + 1) ≤ s)
      gate_apart s is = elim second as (λ b. s ≡ slot_lba n base (not b) → (s < slot_lba n base b) ⊎ (slot_lba n base b + (n + 1) ≤ s)) [
        | true ↦ λ is. inl (omega arith)
        | false ↦ λ is. inr (omega arith)
      ] is

      pub crash_second : u.tells → LeavesOnly u w (λ c. IsEither None (current n (u.reads area) base) (current n (c area) base))
      crash_second tells =
          let now = looks.continues.still_tells tells in
          let then = closing.continues.still_tells now in
          let here = subst (λ (at : ℕ). LeavesOnly v w (λ c. IsEither None (slot n (v.reads area) at) (slot n (c area) at))) place' (while_closing n area gate' some v w then (durable now) (closing'.told then) (unwritten' then)) in
          leaves_then u v w _ _ (crash_first tells) (leaves_both v w _ _ (closing_here.told then).crash here)
          (λ c both.
          let shut = gate_frame (v.reads area) (c area) (slot_lba n base (not second)) (both.0 area (slot_lba n base (not second)) (λ same. gate_apart _ refl) (durable now _)) ∙ shut_there now in
          let this = by_none n base second (c area) (slot_shut n (c area) _ shut) in
          ⊎_elim (λ none. inl (this ∙ none)) (λ same. inr (this ∙ same ∙ current_then tells)) both.1)

      pub both_shut : (v.tells → is_open_gate (w.reads area) gate' ≡ false) → u.tells → (which : Bool) → is_open_gate (w.reads area) (slot_lba n base which) ≡ false
      both_shut closed' tells =
          let now = looks.continues.still_tells tells in
          let then = closing.continues.still_tells now in
          both_gates n base (w.reads area) second
          (subst (λ (at : ℕ). is_open_gate (w.reads area) at ≡ false) place' (closed' then))
          (gate_frame (v.reads area) (w.reads area) (slot_lba n base (not second)) ((closing_here.told then).reads area _ (λ same. gate_apart _ refl)) ∙ shut_there now)
