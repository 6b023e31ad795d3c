-- A plant that tells nothing of its content.
use Rattle.std.specs.Prelude.{ℕ, ◌^◌, min}
use Rattle.std.proofs.Common.{arith}
use Rattle.bd_dev.specs.declared.plant.Area.{Area}
use Rattle.bd_dev.specs.declared.plant.Area.TheVariants.{Disk, Flash}
use Rattle.bd_dev.specs.Plant.{View, IsHonest}

-- how many sectors the areas have, and the count of faults
pub record Sizes : Type 0 where
  pub disk : ℕ
  pub flash : ℕ
  pub faults : ℕ

-- the sectors of an area
abbrev pub sectors_of : Sizes → Area → ℕ
sectors_of sizes Disk = sizes.disk
sectors_of sizes Flash = sizes.flash

-- what it tells are its sizes and its faults
abbrev pub view_of : Sizes → View
view_of sizes = record {
  tells = ⊥;
  size = λ a. min (sectors_of sizes a) (2 ^ 40);
  reads = λ a k. 0;
  unsynced = λ a s. Unit {0};
  moment = 0;
  left_since = λ t c. Unit {0};
  read_since = λ t c. Unit {0};
  writes = λ a. 0;
  faults = sizes.faults;
}

pub view_honest : (sizes : Sizes) → IsHonest (view_of sizes)
view_honest sizes = record {
  small = λ a. omega arith;
  counts_now = λ tells. absurd tells;
  only_now = λ tells. absurd tells;
  between_now = λ tells. absurd tells;
  between = λ tells. absurd tells;
}
