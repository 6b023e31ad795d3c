-- The variables as they are kept, and the plants that fit them.
use Rattle.std.specs.Prelude.{◌≡◌, ℕ, ◌≤◌, List, Some}
use Rattle.bd_dev.specs.declared.plant.Area.TheVariants.{Flash}
use Rattle.bd_dev.specs.Plant.{View}
use Rattle.slot_pair.specs.Pair.{Fits, Pair}
use Rattle.storage_model.specs.Variables.{IsText, kept_in, variables_sectors}

-- the pair of slots, and its current content
pub record Vars : Type 0 where
  pub pair : Pair
  pub text : List ℕ

-- the text of variables, which has room in a slot
pub record AreVars (n : ℕ) (text : List ℕ) : Type 0 where
  pub short : n ≤ 8180
  pub lines : IsText text

-- A plant fits the variables: it fits their pair, which is that of the flash, and, where it tells, the current content
-- is the one that is kept.
pub record FitsVars (v : View) (vars : Vars) : Type 0 where
  pub pair : Fits variables_sectors v vars.pair
  pub area : vars.pair.area ≡ Flash
  pub base : vars.pair.base ≡ 0
  pub kept : v.tells → kept_in (v.size Flash) (v.reads Flash) ≡ Some (record { number = vars.pair.number; content = vars.text })
