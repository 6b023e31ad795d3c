-- A pair of slots as it is kept, and the plants that fit it.
use Rattle.std.specs.Prelude.{◌≡◌, ℕ, ◌+◌, ◌≤◌, List, Bool, Some}
use Rattle.bd_dev.specs.declared.plant.Area.{Area}
use Rattle.bd_dev.specs.Plant.{View}
use Rattle.slot_model.specs.Slots.{current, pair_sectors, slot, slot_lba}

-- where a pair begins, which of its slots is current, and that slot's number
pub record Pair : Type 0 where
  pub area : Area
  pub base : ℕ
  pub second : Bool
  pub number : ℕ

-- the current slot of the pair, of n sectors of body, is the one that is kept
pub record IsKept (n : ℕ) (z : ℕ → ℕ) (pair : Pair) : Type 0 where
  pub content : List ℕ
  pub this : slot n z (slot_lba n pair.base pair.second) ≡ Some (record { number = pair.number; content = content })
  pub whole : current n z pair.base ≡ Some (record { number = pair.number; content = content })

-- A plant fits a pair: its area holds the pair and, where it tells, the pair's current slot is the one that is kept.
pub record Fits (n : ℕ) (v : View) (pair : Pair) : Type 0 where
  pub room : pair.base + pair_sectors n ≤ v.size pair.area
  pub kept : v.tells → IsKept n (v.reads pair.area) pair
