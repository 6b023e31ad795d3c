-- What a crash leaves of a slot and of its pair, while the slot is closed and filled.
use Rattle.std.proofs.Common.{◌≡◌, ◌⊎◌, inl, inr, ⊎_elim, ℕ, ◌+◌, ◌<◌, ◌≤◌, Bool, not, true, false, Option, None, sym, ◌∙◌, arith}
use Rattle.std.proofs.lemmas.Bool.{cases_Bool}
use Rattle.bd_dev.specs.declared.plant.Area.{Area}
use Rattle.bd_dev.specs.Content.{Outside}
use Rattle.bd_dev.specs.Plant.{View, IsSynced}
use Rattle.bd_dev.specs.Runs.{LeavesOnly, Looks}
use Rattle.bd_dev.specs.Touching.{OnlyTouches, Touches}
use Rattle.bd_dev.proofs.Joins.{leaves_then}
use Rattle.bd_dev.proofs.Touch.{leaves_weaker, touch_wider}
use Rattle.slot_pair.specs.Putting.{IsEither}
use Rattle.slot_pair.proofs.Frames.{body_frame, gate_frame, slot_cases, slot_frame, slot_opened, slot_shut}
use Rattle.slot_model.specs.Slots.{Stored, body, is_open_gate, pair_sectors, slot, slot_lba}

module _ (n : ℕ) (area : Area) (gate : ℕ) (some : 0 < n) where
  -- the gate is closed, if it reads open
  pub while_closing : (v w : View) → v.tells → IsSynced v area → OnlyTouches area gate 1 v w → (is_open_gate (v.reads area) gate ≡ false → Looks v w)
      → LeavesOnly v w (λ c. IsEither None (slot n (v.reads area) gate) (slot n (c area) gate))
  while_closing v w tells synced touches unwritten = elim (cases_Bool (is_open_gate (v.reads area) gate)) [
    | inl is_open ↦ leaves_weaker v w _ _ touches.crash (λ c keeps. ⊎_elim (λ none. inl none)
        (λ is. inr (is ∙ body_frame n (v.reads area) (c area) gate some (λ s le lt. keeps area s (λ same. inr le) (synced s)) ∙ sym (slot_opened n (v.reads area) gate is_open)))
        (slot_cases n (c area) gate))
    | inr shut ↦ leaves_weaker v w _ _ ((unwritten shut).told tells).crash (λ c image. inr (slot_frame n (v.reads area) (c area) gate some (λ s le lt. image area s (synced s))))
  ]

  -- the body is written behind a closed gate
  pub while_writing : (v w : View) → IsSynced v area → is_open_gate (v.reads area) gate ≡ false → OnlyTouches area (gate + 1) n v w
      → LeavesOnly v w (λ c. slot n (c area) gate ≡ None)
  while_writing v w synced shut touches = leaves_weaker v w _ _ touches.crash
      (λ c keeps. slot_shut n (c area) gate (gate_frame (v.reads area) (c area) gate (keeps area gate (λ same. inl (omega arith)) (synced gate)) ∙ shut))

  -- the gate is opened before a whole body
  pub while_opening : (v w : View) (new : Option Stored) → IsSynced v area → body n (v.reads area) gate ≡ new → OnlyTouches area gate 1 v w
      → LeavesOnly v w (λ c. IsEither None new (slot n (c area) gate))
  while_opening v w new synced is touches = leaves_weaker v w _ _ touches.crash (λ c keeps. ⊎_elim (λ none. inl none)
      (λ stands. inr (stands ∙ body_frame n (v.reads area) (c area) gate some (λ s le lt. keeps area s (λ same. inr le) (synced s)) ∙ is)) (slot_cases n (c area) gate))

  pub opened : (v w : View) (new : Option Stored) → body n (v.reads area) gate ≡ new → OnlyTouches area gate 1 v w → is_open_gate (w.reads area) gate ≡ true → slot n (w.reads area) gate ≡ new
  opened v w new is touches is_open =
      slot_opened n (w.reads area) gate is_open ∙ body_frame n (v.reads area) (w.reads area) gate some (λ s le lt. touches.reads area s (λ same. inr le)) ∙ is

  -- a body and then its gate
  pub then_opening : (u v w : View) (new : Option Stored) → LeavesOnly u v (λ c. slot n (c area) gate ≡ None) → LeavesOnly v w (λ c. IsEither None new (slot n (c area) gate))
      → LeavesOnly u w (λ c. IsEither None new (slot n (c area) gate))
  then_opening u v w new first second = leaves_then u v w _ _ (leaves_weaker u v _ _ first (λ c none. inl none)) second (λ c is. is)

-- the two slots of a pair lie apart
pub apart : (n : ℕ) (area : Area) (base : ℕ) (second : Bool) (s : ℕ) → slot_lba n base second ≤ s → s < slot_lba n base second + 1 + n → Outside area (slot_lba n base (not second)) (n + 1) area s
apart n area base second s le lt same =
    elim second as (λ b. slot_lba n base b ≤ s → s < slot_lba n base b + 1 + n → (s < slot_lba n base (not b)) ⊎ (slot_lba n base (not b) + (n + 1) ≤ s)) [
      | true ↦ λ low high. inr (omega arith)
      | false ↦ λ low high. inl (omega arith)
    ] le lt

-- a slot lies within its pair
pub within_low : (n base : ℕ) (second : Bool) → base ≤ slot_lba n base second
within_low n base true = omega arith
within_low n base false = omega arith

pub within_high : (n base : ℕ) (second : Bool) → slot_lba n base second + (n + 1) ≤ base + pair_sectors n
within_high n base true = omega arith
within_high n base false = omega arith

pub touch_pair : (n : ℕ) (area : Area) (base : ℕ) (second : Bool) (v w : View) → Touches area (slot_lba n base second) (n + 1) v w → Touches area base (pair_sectors n) v w
touch_pair n area base second v w touches = touch_wider area (slot_lba n base second) (n + 1) base (pair_sectors n) v w (within_low n base second) (within_high n base second) touches

pub touch_gate : (n : ℕ) (area : Area) (gate : ℕ) (v w : View) → Touches area gate 1 v w → Touches area gate (n + 1) v w
touch_gate n area gate v w touches = touch_wider area gate 1 gate (n + 1) v w (omega arith) (omega arith) touches

pub touch_body : (n : ℕ) (area : Area) (gate : ℕ) (v w : View) → Touches area (gate + 1) n v w → Touches area gate (n + 1) v w
touch_body n area gate v w touches = touch_wider area (gate + 1) n gate (n + 1) v w (omega arith) (omega arith) touches
