-- What a format leaves: both slots are closed, and then the first is filled.
use Rattle.std.proofs.Common.{◌≡◌, inl, inr, ⊎_elim, ℕ, ◌+◌, ◌<◌, ◌≤◌, List, Bool, true, false, None, ◌∙◌, arith}
use Rattle.bd_dev.specs.declared.plant.Area.{Area}
use Rattle.bd_dev.specs.Plant.{View, IsHonest, IsSynced}
use Rattle.bd_dev.specs.Runs.{LeavesOnly}
use Rattle.bd_dev.specs.Touching.{Touches}
use Rattle.bd_dev.proofs.Joins.{leaves_now, leaves_then}
use Rattle.bd_dev.proofs.Touch.{leaves_both, leaves_weaker, touch_now, touch_then}
use Rattle.slot_pair.specs.Putting.{Formats, IsEither, IsEitherOrNone, IsStored, formatted, stored}
use Rattle.slot_pair.proofs.Currents.{by_none, same_current}
use Rattle.slot_pair.proofs.Frames.{gate_frame, slot_shut}
use Rattle.slot_pair.proofs.Replacing.{touch_pair}
use Rattle.slot_model.specs.Slots.{current, is_open_gate, pair_sectors, slot, slot_lba}

module _ (n : ℕ) (area : Area) (base : ℕ) (content : List ℕ) (some : 0 < n) where
  -- no call
  pub formats_nothing : (v : View) → IsHonest v → (v.tells → IsSynced v area) → Formats n area base content v v
  formats_nothing v honest synced = record {
    touches = touch_now area base (pair_sectors n) v honest;
    crash = λ tells. leaves_now v _ honest tells (λ c image. inr (inl (same_current n area base some v (synced tells) c image)));
  }

  module _ (u v : View) (closing : Touches area base (pair_sectors n) u v) (crash : u.tells → LeavesOnly u v (λ c. IsEither None (current n (u.reads area) base) (current n (c area) base))) where
    first_crash : u.tells → LeavesOnly u v (λ c. IsEitherOrNone (current n (u.reads area) base) (stored 1 content) (current n (c area) base))
    first_crash tells = leaves_weaker u v _ _ (crash tells) (λ c is. ⊎_elim (λ none. inl none) (λ same. inr (inl same)) is)

    -- both slots are closed
    pub formats_closing : Formats n area base content u v
    formats_closing = record { touches = closing; crash = first_crash }

    module _ (w : View) (closed : u.tells → (which : Bool) → is_open_gate (v.reads area) (slot_lba n base which) ≡ false) (durable : u.tells → IsSynced v area)
        (filling : Touches area base (n + 1) v w) (fill_crash : v.tells → LeavesOnly v w (λ c. IsEither None (stored 1 content) (slot n (c area) base))) where
      -- and the first is filled
      pub formats_filling : Formats n area base content u w
      formats_filling = record {
        touches = touch_then area base (pair_sectors n) u v w closing (touch_pair n area base false v w filling);
        crash = λ tells.
            let now = closing.continues.still_tells tells in
            leaves_then u v w _ _ (first_crash tells) (leaves_both v w _ _ (filling.told now).crash (fill_crash now)) (λ c both.
            let shut = gate_frame (v.reads area) (c area) (base + n + 1) (both.0 area (base + n + 1) (λ same. inr (omega arith)) (durable tells _)) ∙ closed tells true in
            let this = by_none n base false (c area) (slot_shut n (c area) (base + n + 1) shut) in
            ⊎_elim (λ none. inl (this ∙ none)) (λ new. inr (inr (this ∙ new))) both.1);
      }

      pub format_stored : base + pair_sectors n ≤ u.size area → (v.tells → slot n (w.reads area) base ≡ stored 1 content) → (v.tells → IsSynced w area) → IsStored n w (formatted area base) content
      format_stored room filled synced = record {
        fits = record {
          room = omega (arith, filling.continues.size area, closing.continues.size area, room);
          kept = λ tells. record { content = content; this = filled (filling.continues.tells tells); whole = whole tells };
        };
        holds = whole;
        lasts = λ tells c image. same_current n area base some w (synced (filling.continues.tells tells)) c image ∙ whole tells;
        synced = λ tells. synced (filling.continues.tells tells);
      }
        where
          whole : w.tells → current n (w.reads area) base ≡ stored 1 content
          whole tells =
              let now = filling.continues.tells tells in
              let before = closing.continues.tells now in
              let shut = gate_frame (v.reads area) (w.reads area) (base + n + 1) ((filling.told now).reads area (base + n + 1) (λ same. inr (omega arith))) ∙ closed before true in
              by_none n base false (w.reads area) (slot_shut n (w.reads area) (base + n + 1) shut) ∙ filled now
