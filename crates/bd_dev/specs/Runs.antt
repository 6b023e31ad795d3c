-- What a run of calls leaves: relations between a plant's value before it and a later one.
use Rattle.std.specs.Prelude.{◌≡◌, ◌⊎◌, ℕ, ◌+◌, ◌≤◌}
use Rattle.bd_dev.specs.declared.plant.Area.{Area}
use Rattle.bd_dev.specs.Content.{Image}
use Rattle.bd_dev.specs.Plant.{View, IsImage, OnlyReads}

-- Each image that a crash since old might have left has P; so has each content that was read between two calls.
pub record LeavesOnly (old new : View) (P : Image → Type 0) : Type 0 where
  pub later : old.moment ≤ new.moment
  pub each : (c : Image) → new.left_since old.moment c → P c
  pub before : (t : ℕ) (c : Image) → t ≤ old.moment → new.left_since t c → old.left_since t c ⊎ P c
  pub read : (t : ℕ) (c : Image) → t ≤ old.moment → new.read_since t c → old.read_since t c ⊎ P c

-- Each content that was read between two calls since old, up to the first that failed, has P.
pub record ReadsOnly (old new : View) (P : Image → Type 0) : Type 0 where
  pub later : old.moment ≤ new.moment
  pub each : (c : Image) → new.read_since old.moment c → P c
  pub before : (t : ℕ) (c : Image) → t ≤ old.moment → new.read_since t c → old.read_since t c ⊎ P c

-- what each run keeps, whatever the plant tells
pub record Continues (old new : View) : Type 0 where
  pub size : (a : Area) → new.size a ≡ old.size a
  pub tells : new.tells → old.tells
  pub still_tells : old.tells → new.tells
  pub later : old.moment ≤ new.moment

-- A run that writes at most n sectors of an area, and none of the other.
pub record WritesAtMost (area : Area) (n : ℕ) (old new : View) : Type 0 where
  pub here : new.writes area ≤ old.writes area + n
  pub elsewhere : (a : Area) → (a ≡ area → ⊥) → new.writes a ≡ old.writes a

-- A run that only reads: at every moment a crash leaves what it could have left before, and the same is read.
pub record OnlyLooks (old new : View) : Type 0 where
  pub only : OnlyReads old new
  pub crash : LeavesOnly old new (IsImage old)
  pub between : ReadsOnly old new (λ c. c ≡ old.reads)

-- the same of a plant that may tell nothing
pub record Looks (old new : View) : Type 0 where
  pub continues : Continues old new
  pub told : old.tells → OnlyLooks old new
