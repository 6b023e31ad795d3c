-- What a put and a format of a pair of slots leave, at every moment and at the end.
use Rattle.std.specs.Prelude.{◌≡◌, ◌⊎◌, ℕ, ◌+◌, List, not, false, Option, Some, None}
use Rattle.bd_dev.specs.declared.plant.Area.{Area}
use Rattle.bd_dev.specs.Content.{Image}
use Rattle.bd_dev.specs.Plant.{View, IsImage, IsSynced}
use Rattle.bd_dev.specs.Runs.{LeavesOnly}
use Rattle.bd_dev.specs.Touching.{Touches}
use Rattle.slot_pair.specs.Pair.{Fits, Pair}
use Rattle.slot_model.specs.Slots.{Stored, current, pair_sectors}

-- one of the two
abbrev pub IsEither : Option Stored → Option Stored → Option Stored → Type 0
IsEither before after is = (is ≡ before) ⊎ (is ≡ after)

-- one of the two, or none
abbrev pub IsEitherOrNone : Option Stored → Option Stored → Option Stored → Type 0
IsEitherOrNone before after is = (is ≡ None) ⊎ IsEither before after is

-- a content under a number, as a slot holds it
abbrev pub stored : ℕ → List ℕ → Option Stored
stored number content = Some (record { number = number; content = content })

-- A put of a content: it touches the pair's sectors alone, and at every moment a crash leaves what the current slot
-- held or the content under the next number.
pub record Puts (n : ℕ) (pair : Pair) (content : List ℕ) (old new : View) : Type 0 where
  pub touches : Touches pair.area pair.base (pair_sectors n) old new
  pub crash : old.tells → LeavesOnly old new (λ c. IsEither (current n (old.reads pair.area) pair.base) (stored (pair.number + 1) content) (current n (c pair.area) pair.base))

-- A format of a pair with a content: the same, or a crash leaves no open slot; the content's number is 1.
pub record Formats (n : ℕ) (area : Area) (base : ℕ) (content : List ℕ) (old new : View) : Type 0 where
  pub touches : Touches area base (pair_sectors n) old new
  pub crash : old.tells → LeavesOnly old new (λ c. IsEitherOrNone (current n (old.reads area) base) (stored 1 content) (current n (c area) base))

-- The plant fits the pair, whose current slot holds this content, in each image that a crash now may leave, and nothing
-- of the area is unsynced.
pub record IsStored (n : ℕ) (v : View) (pair : Pair) (content : List ℕ) : Type 0 where
  pub fits : Fits n v pair
  pub holds : v.tells → current n (v.reads pair.area) pair.base ≡ stored pair.number content
  pub lasts : v.tells → (c : Image) → IsImage v c → current n (c pair.area) pair.base ≡ stored pair.number content
  pub synced : v.tells → IsSynced v pair.area

-- the pair after a put: the other slot is current, under the next number
abbrev pub turned : Pair → Pair
turned pair = record { area = pair.area; base = pair.base; second = not pair.second; number = pair.number + 1 }

-- the pair after a format: the first slot is current, under number 1
abbrev pub formatted : Area → ℕ → Pair
formatted area base = record { area = area; base = base; second = false; number = 1 }
