-- What a put leaves: the other slot is closed, filled, and so is current.
use Rattle.std.proofs.Common.{◌≡◌, inl, inr, ⊎_elim, ℕ, ◌+◌, ◌<◌, List, not, false, Option, None, sym, ◌∙◌, ap, subst, arith}
use Rattle.bd_dev.specs.Plant.{View, IsHonest, IsSynced}
use Rattle.bd_dev.specs.Runs.{LeavesOnly, Looks}
use Rattle.bd_dev.specs.Touching.{Touches}
use Rattle.bd_dev.proofs.Joins.{leaves_now, leaves_then}
use Rattle.bd_dev.proofs.Touch.{leaves_both, leaves_weaker, touch_now, touch_then}
use Rattle.slot_pair.specs.Body.{IsSpelled}
use Rattle.slot_pair.specs.Pair.{Fits, IsKept, Pair}
use Rattle.slot_pair.specs.Putting.{IsEither, IsEitherOrNone, IsStored, Puts, stored, turned}
use Rattle.slot_pair.proofs.Currents.{alone, beaten, by_pick, pick, same_current}
use Rattle.slot_pair.proofs.Frames.{slot_frame}
use Rattle.slot_pair.proofs.Replacing.{apart, touch_gate, touch_pair, while_closing}
use Rattle.slot_model.specs.Slots.{Stored, current, is_open_gate, pair_sectors, slot, slot_lba}

-- no call
pub puts_nothing : (n : ℕ) (pair : Pair) (content : List ℕ) (v : View) → 0 < n → IsHonest v → (v.tells → IsSynced v pair.area) → Puts n pair content v v
puts_nothing n pair content v some honest synced = record {
  touches = touch_now pair.area pair.base (pair_sectors n) v honest;
  crash = λ tells. leaves_now v _ honest tells (λ c image. inl (same_current n pair.area pair.base some v (synced tells) c image));
}

module _ (n : ℕ) (pair : Pair) (content : List ℕ) (some : 0 < n) (u w : View) (synced : u.tells → IsSynced u pair.area) (fits : Fits n u pair) (touches : Touches pair.area (slot_lba n pair.base (not pair.second)) (n + 1) u w) where
  there : ℕ
  there = slot_lba n pair.base (not pair.second)

  next : Option Stored
  next = stored (pair.number + 1) content

  -- the pair holds what it held, or what the other slot is given
  replaced : (kept : IsKept n (u.reads pair.area) pair) (c : ℕ → ℕ) → slot n c (slot_lba n pair.base pair.second) ≡ slot n (u.reads pair.area) (slot_lba n pair.base pair.second)
      → IsEitherOrNone (slot n (u.reads pair.area) (slot_lba n pair.base (not pair.second))) (stored (pair.number + 1) content) (slot n c (slot_lba n pair.base (not pair.second)))
      → IsEither (current n (u.reads pair.area) pair.base) (stored (pair.number + 1) content) (current n c pair.base)
  replaced kept c same (inl none) =
      inl (by_pick n pair.base pair.second c ∙ (λ i. pick pair.second (same i) (none i)) ∙ ap (λ o. pick pair.second o None) kept.this ∙ alone pair.second _ ∙ sym kept.whole)
  replaced kept c same (inr (inl as_before)) = inl (by_pick n pair.base pair.second c ∙ (λ i. pick pair.second (same i) (as_before i)) ∙ sym (by_pick n pair.base pair.second (u.reads pair.area)))
  replaced kept c same (inr (inr new)) =
      inr (by_pick n pair.base pair.second c ∙ (λ i. pick pair.second (same i) (new i)) ∙ ap (λ o. pick pair.second o (stored (pair.number + 1) content)) kept.this ∙ beaten pair.second _ _ (omega arith))

  puts_from : (u.tells → LeavesOnly u w (λ c. IsEitherOrNone (slot n (u.reads pair.area) (slot_lba n pair.base (not pair.second))) (stored (pair.number + 1) content) (slot n (c pair.area) (slot_lba n pair.base (not pair.second)))))
      → Puts n pair content u w
  puts_from leaves = record {
    touches = touch_pair n pair.area pair.base (not pair.second) u w touches;
    crash = λ tells. leaves_weaker u w _ _ (leaves_both u w _ _ (touches.told tells).crash (leaves tells))
        (λ c both. replaced (fits.kept tells) (c pair.area)
        (slot_frame n (u.reads pair.area) (c pair.area) (slot_lba n pair.base pair.second) some (λ s le lt. both.0 pair.area s (apart n pair.area pair.base pair.second s le lt) (synced tells s))) both.1);
  }

  stored_from : (w.tells → slot n (w.reads pair.area) (slot_lba n pair.base (not pair.second)) ≡ stored (pair.number + 1) content) → (w.tells → IsSynced w pair.area) → IsStored n w (turned pair) content
  stored_from filled durable = record {
    fits = record { room = omega (arith, touches.continues.size pair.area, fits.room); kept = λ tells. record { content = content; this = filled tells; whole = whole tells } };
    holds = whole;
    lasts = λ tells c image. same_current n pair.area pair.base some w (durable tells) c image ∙ whole tells;
    synced = durable;
  }
    where
      whole : w.tells → current n (w.reads pair.area) pair.base ≡ stored (pair.number + 1) content
      whole tells =
          let before = touches.continues.tells tells in
          let same = slot_frame n (u.reads pair.area) (w.reads pair.area) (slot_lba n pair.base pair.second) some (λ s le lt. (touches.told before).reads pair.area s (apart n pair.area pair.base pair.second s le lt)) in
          by_pick n pair.base pair.second (w.reads pair.area) ∙ (λ i. pick pair.second (same i) (filled tells i)) ∙ ap (λ o. pick pair.second o (stored (pair.number + 1) content)) (fits.kept before).this ∙ beaten pair.second _ _ (omega arith)

module _ (n : ℕ) (pair : Pair) (content : List ℕ) (gate : ℕ) (some : 0 < n) (u v : View) (synced : u.tells → IsSynced u pair.area) (fits : Fits n u pair) (place : gate ≡ slot_lba n pair.base (not pair.second))
    (closing : Touches pair.area gate 1 u v) (unwritten : u.tells → is_open_gate (u.reads pair.area) gate ≡ false → Looks u v) where
  closing_there : Touches pair.area (slot_lba n pair.base (not pair.second)) (n + 1) u v
  closing_there = touch_gate n pair.area _ u v (subst (λ (at : ℕ). Touches pair.area at 1 u v) place closing)

  crash_there : u.tells → LeavesOnly u v (λ c. IsEither None (slot n (u.reads pair.area) (slot_lba n pair.base (not pair.second))) (slot n (c pair.area) (slot_lba n pair.base (not pair.second))))
  crash_there tells = subst (λ (at : ℕ). LeavesOnly u v (λ c. IsEither None (slot n (u.reads pair.area) at) (slot n (c pair.area) at))) place (while_closing n pair.area gate some u v tells (synced tells) (closing.told tells) (unwritten tells))

  -- the other slot's gate is closed
  pub puts_closing : Puts n pair content u v
  puts_closing = puts_from n pair content some u v synced fits closing_there
      (λ tells. leaves_weaker u v _ _ (crash_there tells) (λ c is. ⊎_elim (λ none. inl none) (λ same. inr (inl same)) is))

  module _ (w : View) (filling : Touches pair.area gate (n + 1) v w) (crash : v.tells → LeavesOnly v w (λ c. IsEither None (stored (pair.number + 1) content) (slot n (c pair.area) gate))) where
    whole_there : Touches pair.area (slot_lba n pair.base (not pair.second)) (n + 1) u w
    whole_there = touch_then pair.area _ (n + 1) u v w closing_there (subst (λ (at : ℕ). Touches pair.area at (n + 1) v w) place filling)

    -- and the slot is filled
    pub puts_filling : Puts n pair content u w
    puts_filling = puts_from n pair content some u w synced fits whole_there (λ tells.
        let second = subst (λ (at : ℕ). LeavesOnly v w (λ c. IsEither None (stored (pair.number + 1) content) (slot n (c pair.area) at))) place (crash (closing.continues.still_tells tells)) in
        leaves_then u v w _ _ (leaves_weaker u v _ _ (crash_there tells) (λ c is. ⊎_elim (λ none. inl none) (λ same. inr (inl same)) is)) second (λ c is. ⊎_elim (λ none. inl none) (λ same. inr (inr same)) is))

    pub put_stored : (v.tells → slot n (w.reads pair.area) gate ≡ stored (pair.number + 1) content) → (v.tells → IsSynced w pair.area) → IsStored n w (turned pair) content
    put_stored filled durable = stored_from n pair content some u w synced fits whole_there
        (λ tells. subst (λ (at : ℕ). slot n (w.reads pair.area) at ≡ stored (pair.number + 1) content) place (filled (filling.continues.tells tells)))
        (λ tells. durable (filling.continues.tells tells))

-- the same of a pair that a value keeps
module _ (n : ℕ) (pair now : Pair) (is : pair ≡ now) (content : List ℕ) (gate : ℕ) (some : 0 < n) (u v : View) (synced : u.tells → IsSynced u now.area) (fits : Fits n u now) (place : gate ≡ slot_lba n now.base (not now.second))
    (closing : Touches pair.area gate 1 u v) (unwritten : u.tells → is_open_gate (u.reads pair.area) gate ≡ false → Looks u v) where
  its_synced : u.tells → IsSynced u pair.area
  its_synced tells = subst (λ (p : Pair). IsSynced u p.area) (sym is) (synced tells)

  its_fits : Fits n u pair
  its_fits = subst (λ (p : Pair). Fits n u p) (sym is) fits

  its_place : gate ≡ slot_lba n pair.base (not pair.second)
  its_place = place ∙ ap (λ (p : Pair). slot_lba n p.base (not p.second)) (sym is)

  pub closing_few : (m : ℕ) → Touches now.area (slot_lba n now.base (not now.second)) (m + 1) u v
  closing_few m = subst (λ (p : Pair). Touches p.area (slot_lba n p.base (not p.second)) (m + 1) u v) is
      (touch_gate m pair.area _ u v (subst (λ (at : ℕ). Touches pair.area at 1 u v) its_place closing))

  pub filling_few : (m : ℕ) (w : View) → Touches pair.area gate (m + 1) v w → Touches now.area (slot_lba n now.base (not now.second)) (m + 1) u w
  filling_few m w filling = touch_then now.area _ (m + 1) u v w (closing_few m)
      (subst (λ (p : Pair). Touches p.area (slot_lba n p.base (not p.second)) (m + 1) v w) is (subst (λ (at : ℕ). Touches pair.area at (m + 1) v w) its_place filling))

  pub filling_bytes : (w : View) → IsSpelled (w.reads pair.area) gate (pair.number + 1) content → IsSpelled (w.reads now.area) (slot_lba n now.base (not now.second)) (now.number + 1) content
  filling_bytes w spelled = subst (λ (p : Pair). IsSpelled (w.reads p.area) (slot_lba n p.base (not p.second)) (p.number + 1) content) is
      (subst (λ (at : ℕ). IsSpelled (w.reads pair.area) at (pair.number + 1) content) its_place spelled)

  pub closing_puts : Puts n now content u v
  closing_puts = subst (λ (p : Pair). Puts n p content u v) is (puts_closing n pair content gate some u v its_synced its_fits its_place closing unwritten)

  module _ (w : View) (filling : Touches pair.area gate (n + 1) v w) (crash : v.tells → LeavesOnly v w (λ c. IsEither None (stored (pair.number + 1) content) (slot n (c pair.area) gate))) where
    pub filling_puts : Puts n now content u w
    filling_puts = subst (λ (p : Pair). Puts n p content u w) is (puts_filling n pair content gate some u v its_synced its_fits its_place closing unwritten w filling crash)

    pub filling_stores : (v.tells → slot n (w.reads pair.area) gate ≡ stored (pair.number + 1) content) → (v.tells → IsSynced w pair.area) → IsStored n w (turned pair) content
    filling_stores filled durable = put_stored n pair content gate some u v its_synced its_fits its_place closing unwritten w filling crash filled durable
