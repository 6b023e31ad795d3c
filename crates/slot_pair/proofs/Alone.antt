-- How runs join that leave sectors alone, and what a format's steps leave alone.
use Rattle.std.proofs.Common.{◌≡◌, ◌⊎◌, inl, inr, ⊎_elim, ℕ, ◌+◌, ◌*◌, ◌/◌, ◌<◌, ◌≤◌, Bool, not, true, false, replicate, refl, sym, ◌∙◌, ap, subst, arith}
use Rattle.bd_dev.specs.declared.plant.Area.{Area}
use Rattle.bd_dev.specs.Content.{Image, Outside, SameSector, window}
use Rattle.bd_dev.specs.Plant.{View}
use Rattle.bd_dev.specs.Runs.{Looks}
use Rattle.bd_dev.specs.Touching.{Touches}
use Rattle.bd_dev.proofs.Joins.{leaves_then, reads_then, same_all, same_sector_trans}
use Rattle.bd_dev.proofs.Touch.{leaves_weaker, reads_weaker}
use Rattle.bd_dev.proofs.Windows.{at_byte, same_window}
use Rattle.slot_pair.specs.Formatting.{AgreesOn, IsBesideFormat, IsShut, KeepsOn, LeavesAlone}
use Rattle.slot_pair.proofs.Frames.{gate_frame}
use Rattle.slot_model.specs.Slots.{is_open_gate, slot_lba}

-- a run that touches no spared sector
pub alone_touch : (Spared : Area → ℕ → Type 0) (area : Area) (lba n : ℕ) (old new : View) → ((a : Area) (s : ℕ) → Spared a s → Outside area lba n a s) → old.tells → Touches area lba n old new → LeavesAlone Spared old new
alone_touch Spared area lba n old new apart tells touches =
    let run = touches.told tells in
    record {
      reads = λ a s spared. run.reads a s (apart a s spared);
      unsynced = λ a s spared. run.unsynced a s (apart a s spared);
      crash = leaves_weaker old new _ _ run.crash (λ c keeps a s spared. keeps a s (apart a s spared));
      between = reads_weaker old new _ _ run.between (λ c agrees a s spared. agrees a s (apart a s spared));
    }

-- a run that only reads
pub alone_look : (Spared : Area → ℕ → Type 0) (old new : View) → old.tells → Looks old new → LeavesAlone Spared old new
alone_look Spared old new tells looks =
    let run = looks.told tells in
    record {
      reads = λ a s spared. same_all old.reads new.reads run.only.reads a s;
      unsynced = λ a s spared. run.only.unsynced.unsynced a s;
      crash = leaves_weaker old new _ _ run.crash (λ c image a s spared synced. image a s synced);
      between = reads_weaker old new _ _ run.between (λ c same a s spared. same_all old.reads c same a s);
    }

pub alone_then : (Spared : Area → ℕ → Type 0) (old mid new : View) → LeavesAlone Spared old mid → LeavesAlone Spared mid new → LeavesAlone Spared old new
alone_then Spared old mid new one two = record {
  reads = λ a s spared. same_sector_trans (old.reads a) (mid.reads a) (new.reads a) s (one.reads a s spared) (two.reads a s spared);
  unsynced = λ a s spared un. one.unsynced a s spared (two.unsynced a s spared un);
  crash = leaves_then old mid new (KeepsOn Spared old) (KeepsOn Spared mid) one.crash two.crash
      (λ c keeps a s spared synced. same_sector_trans (old.reads a) (mid.reads a) (c a) s (one.reads a s spared) (keeps a s spared (λ un. synced (one.unsynced a s spared un))));
  between = reads_then old mid new (AgreesOn Spared old.reads) (AgreesOn Spared mid.reads) one.between two.between
      (λ c agrees a s spared. same_sector_trans (old.reads a) (mid.reads a) (c a) s (one.reads a s spared) (agrees a s spared));
}

-- fewer sectors are spared
pub alone_fewer : (Spared Fewer : Area → ℕ → Type 0) (old new : View) → ((a : Area) (s : ℕ) → Fewer a s → Spared a s) → LeavesAlone Spared old new → LeavesAlone Fewer old new
alone_fewer Spared Fewer old new within alone = record {
  reads = λ a s spared. alone.reads a s (within a s spared);
  unsynced = λ a s spared. alone.unsynced a s (within a s spared);
  crash = leaves_weaker old new _ _ alone.crash (λ c keeps a s spared. keeps a s (within a s spared));
  between = reads_weaker old new _ _ alone.between (λ c agrees a s spared. agrees a s (within a s spared));
}

-- a gate of the pair is not beside it
beside_gate : (n : ℕ) (area : Area) (base m : ℕ) (second : Bool) (a : Area) (s : ℕ) → IsBesideFormat n area base m a s → Outside area (slot_lba n base second) 1 a s
beside_gate n area base m true a s beside same = beside.1 same
beside_gate n area base m false a s beside same = ⊎_elim (λ below. inl below) (λ above. inr (omega (arith, above))) (beside.0 same)

pub alone_gate : (n : ℕ) (area : Area) (base m : ℕ) (second : Bool) (gate : ℕ) (old new : View) → gate ≡ slot_lba n base second → old.tells → Touches area gate 1 old new → LeavesAlone (IsBesideFormat n area base m) old new
alone_gate n area base m second gate old new place tells touches =
    alone_touch (IsBesideFormat n area base m) area (slot_lba n base second) 1 old new (beside_gate n area base m second) tells (subst (λ (at : ℕ). Touches area at 1 old new) place touches)

pub alone_closing : (n : ℕ) (area : Area) (base m : ℕ) (old new : View) → LeavesAlone (IsBesideFormat n area base 0) old new → LeavesAlone (IsBesideFormat n area base m) old new
alone_closing n area base m old new closing = alone_fewer (IsBesideFormat n area base 0) (IsBesideFormat n area base m) old new
    (λ a s beside. ((λ same. ⊎_elim (λ below. inl below) (λ above. inr (omega (arith, above))) (beside.0 same)), beside.1)) closing

-- both gates, and then so much of the first slot
pub alone_format : (n : ℕ) (area : Area) (base m : ℕ) (old mid new : View) → old.tells → mid.tells → LeavesAlone (IsBesideFormat n area base 0) old mid → Touches area base (m + 1) mid new → LeavesAlone (IsBesideFormat n area base m) old new
alone_format n area base m old mid new tells now closing filling = alone_then (IsBesideFormat n area base m) old mid new
    (alone_closing n area base m old mid closing)
    (alone_touch (IsBesideFormat n area base m) area base (m + 1) mid new (λ a s beside. beside.0) now filling)

-- a gate stands as it was shut, where its sector is as it was before or after
pub shut_after : (z w c : ℕ → ℕ) (gate : ℕ) → IsShut z w gate → SameSector w c gate → IsShut z c gate
shut_after z w c gate shut same = record {
  zeros = λ is_open. same_window w c (512 * gate) 512 (λ k low high. at_byte w c k (let here : gate ≡ k / 512 = omega arith in subst (SameSector w c) here same)) ∙ shut.zeros is_open;
  same = λ closed. same_sector_trans z w c gate (shut.same closed) same;
}

pub shut_before : (z w c : ℕ → ℕ) (gate : ℕ) → SameSector z w gate → IsShut w c gate → IsShut z c gate
shut_before z w c gate same shut =
    let reads = gate_frame z w gate same in
    record {
      zeros = λ is_open. shut.zeros (reads ∙ is_open);
      same = λ closed. same_sector_trans z w c gate same (shut.same (reads ∙ closed));
    }

-- a gate that was closed
pub shut_here : (area : Area) (gate : ℕ) (old new : View) → old.tells → (is_open_gate (old.reads area) gate ≡ true → window (new.reads area) (512 * gate) 512 ≡ replicate 512 0) → (is_open_gate (old.reads area) gate ≡ false → Looks old new) → IsShut (old.reads area) (new.reads area) gate
shut_here area gate old new tells zeros unwritten = record {
  zeros = zeros;
  same = λ closed. same_all old.reads new.reads ((unwritten closed).told tells).only.reads area gate;
}

-- the two gates are two sectors
gates_apart : (n base : ℕ) (second : Bool) → (slot_lba n base second < slot_lba n base (not second)) ⊎ (slot_lba n base (not second) + 1 ≤ slot_lba n base second)
gates_apart n base true = inr (omega arith)
gates_apart n base false = inl (omega arith)

twice_not : (b : Bool) → not (not b) ≡ b
twice_not true = refl
twice_not false = refl

other_gate : (n base : ℕ) (second : Bool) → (slot_lba n base (not second) < slot_lba n base second) ⊎ (slot_lba n base second + 1 ≤ slot_lba n base (not second))
other_gate n base second = subst (λ (b : Bool). (slot_lba n base (not second) < slot_lba n base b) ⊎ (slot_lba n base b + 1 ≤ slot_lba n base (not second))) (twice_not second) (gates_apart n base (not second))

each_shut : (n base : ℕ) (b v w : ℕ → ℕ) (second : Bool) → IsShut b v (slot_lba n base (not second)) → SameSector b v (slot_lba n base second) → IsShut v w (slot_lba n base second) → SameSector v w (slot_lba n base (not second)) → (which : Bool) → IsShut b w (slot_lba n base which)
each_shut n base b v w true first first_same then then_same true = shut_before b v w _ first_same then
each_shut n base b v w true first first_same then then_same false = shut_after b v w _ first then_same
each_shut n base b v w false first first_same then then_same true = shut_after b v w _ first then_same
each_shut n base b v w false first first_same then then_same false = shut_before b v w _ first_same then

-- both gates are closed, the other slot's first
module _ (n : ℕ) (area : Area) (base : ℕ) (second : Bool) (gate gate' : ℕ) (u b v w : View) (tells : u.tells) (looks : Looks u b) (place : gate ≡ slot_lba n base (not second)) (place' : gate' ≡ slot_lba n base second)
    (closing : Touches area gate 1 b v) (closing' : Touches area gate' 1 v w)
    (zeros : b.tells → is_open_gate (b.reads area) gate ≡ true → window (v.reads area) (512 * gate) 512 ≡ replicate 512 0) (unwritten : b.tells → is_open_gate (b.reads area) gate ≡ false → Looks b v)
    (zeros' : v.tells → is_open_gate (v.reads area) gate' ≡ true → window (w.reads area) (512 * gate') 512 ≡ replicate 512 0) (unwritten' : v.tells → is_open_gate (v.reads area) gate' ≡ false → Looks v w) where
  pub shut_both : (which : Bool) → IsShut (u.reads area) (w.reads area) (slot_lba n base which)
  shut_both which =
      let now = looks.continues.still_tells tells in
      let then = closing.continues.still_tells now in
      let first = subst (λ (at : ℕ). IsShut (b.reads area) (v.reads area) at) place (shut_here area gate b v now (zeros now) (unwritten now)) in
      let last = subst (λ (at : ℕ). IsShut (v.reads area) (w.reads area) at) place' (shut_here area gate' v w then (zeros' then) (unwritten' then)) in
      let there = (subst (λ (at : ℕ). Touches area at 1 b v) place closing).told now in
      let here = (subst (λ (at : ℕ). Touches area at 1 v w) place' closing').told then in
      subst (λ (z : Image). IsShut (z area) (w.reads area) (slot_lba n base which)) (looks.told tells).only.reads
      (each_shut n base (b.reads area) (v.reads area) (w.reads area) second first (there.reads area _ (λ same. gates_apart n base second)) last (here.reads area _ (λ same. other_gate n base second)) which)
