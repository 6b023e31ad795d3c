-- What a change of the variables leaves.
use Rattle.std.proofs.Common.{◌≡◌, inl, inr, ⊎_elim, ℕ, ◌+◌, ◌<◌, ◌≤◌, List, length, Bool, false, not, cond, nat_lt, None, refl, sym, ◌∙◌, ap, subst, arith}
use Rattle.std.proofs.lemmas.Bool.{le-ltb}
use Rattle.bd_dev.specs.declared.plant.Area.{Area}
use Rattle.bd_dev.specs.declared.plant.Area.TheVariants.{Flash}
use Rattle.bd_dev.specs.Content.{Image, SameSector}
use Rattle.bd_dev.specs.Plant.{View, IsHonest, IsSynced}
use Rattle.bd_dev.proofs.Joins.{leaves_now, writes_none}
use Rattle.bd_dev.proofs.Touch.{leaves_weaker, touch_now}
use Rattle.bd_dev.specs.Touching.{Touches}
use Rattle.slot_pair.proofs.Frames.{slot_frame}
use Rattle.slot_pair.specs.Body.{used_sectors}
use Rattle.slot_pair.specs.Pair.{Pair}
use Rattle.slot_pair.specs.Putting.{Puts}
use Rattle.slot_model.specs.Slots.{current, newer, slot_lba}
use Rattle.storage_model.specs.Variables.{kept_in}
use Rattle.boot_vars.specs.Setting.{Changes, WearsFor}
use Rattle.boot_vars.specs.Vars.{FitsVars, Vars}

-- a flash with room for the variables keeps those of its pair
pub kept_is : (size : ℕ) (z : ℕ → ℕ) → 34 ≤ size → kept_in size z ≡ current 16 z 0
kept_is size z le =
    let room : nat_lt size 34 ≡ false = le-ltb size 34 (omega (arith, le)) in
    ap (λ (b : Bool). cond b None (current 16 z 0)) room

-- the variables depend on the flash's first 34 sectors alone
pub kept_frame : (size : ℕ) (z c : ℕ → ℕ) → ((s : ℕ) → s < 34 → SameSector z c s) → kept_in size c ≡ kept_in size z
kept_frame size z c same = λ i. cond (nat_lt size 34) None
    (newer (slot_frame 16 z c 0 (omega arith) (λ s le lt. same s (omega arith)) i) (slot_frame 16 z c 17 (omega arith) (λ s le lt. same s (omega arith)) i))

pub room_of : (v : View) (vars : Vars) → FitsVars v vars → 34 ≤ v.size Flash
room_of v vars fits =
    let size = ap v.size fits.area in
    let base = fits.base in
    let room = fits.pair.room in
    omega (arith, room, size, base)

pub changes_of : (old new : View) (vars : Vars) (pair : Pair) (text : List ℕ) → FitsVars old vars → vars.pair ≡ pair → Puts 16 pair text old new
    → Touches pair.area (slot_lba 16 pair.base (not pair.second)) (used_sectors (length text) + 1) old new → Changes vars text old new
changes_of old new vars pair text fits same put touched =
    let puts = subst (λ (p : Pair). Puts 16 p text old new) (sym same) put in
    let n = used_sectors (length text) + 1 in
    let few = subst (λ (p : Pair). Touches p.area (slot_lba 16 p.base (not p.second)) n old new) (sym same) touched in
    let kept : (z : Image) → current 16 (z vars.pair.area) vars.pair.base ≡ kept_in (old.size Flash) (z Flash) =
    λ z. (λ i. current 16 (z (fits.area i)) (fits.base i)) ∙ sym (kept_is (old.size Flash) (z Flash) (room_of old vars fits)) in
    record {
      touches = subst (λ (a : Area). Touches a 0 34 old new) fits.area (subst (λ (base : ℕ). Touches vars.pair.area base 34 old new) fits.base puts.touches);
      few = subst (λ (a : Area). Touches a (slot_lba 16 0 (not vars.pair.second)) n old new) fits.area (subst (λ (base : ℕ). Touches vars.pair.area (slot_lba 16 base (not vars.pair.second)) n old new) fits.base few);
      crash = λ tells. leaves_weaker old new _ _ (puts.crash tells) (λ c either.
          ⊎_elim (λ same. inl (sym (kept c) ∙ same ∙ kept old.reads)) (λ turned. inr (sym (kept c) ∙ turned)) either);
    }

-- no call
pub changes_now : (v : View) (vars : Vars) (text : List ℕ) → IsHonest v → (v.tells → IsSynced v Flash) → Changes vars text v v
changes_now v vars text honest synced = record {
  touches = touch_now Flash 0 34 v honest;
  few = touch_now Flash _ _ v honest;
  crash = λ tells. leaves_now v _ honest tells (λ c image. inl (kept_frame (v.size Flash) (v.reads Flash) (c Flash) (λ s lt. image Flash s (synced tells s))));
}

pub wears_now : (v : View) (text : List ℕ) → WearsFor text v v
wears_now v text = record { written = λ tells. writes_none Flash (used_sectors (length text) + 2) v v refl }
