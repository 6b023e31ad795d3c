-- What is left of a source, where it tells.
use Rattle.std.specs.Prelude.{◌≡◌, ℕ, ◌<◌, ◌≤◌, List, [], length, take, drop, Option, option_map}
use Rattle.std.specs.Option.{ForSome}
use Rattle.bd_dev.specs.Calls.{Calls}

-- out begins with the first n of the bytes left, with none only where none are left
pub record IsFront (left : List ℕ) (n : ℕ) (out : List ℕ) : Type 0 where
  pub within : n ≤ length left
  pub bytes : take n out ≡ take n left
  pub moves : 0 < length out → 0 < length left → 0 < n

-- one read of n bytes, which are then no longer left
pub record Gives (old new : Option (List ℕ)) (n : ℕ) (out : List ℕ) : Type 0 where
  pub fits : n ≤ length out
  pub told : ForSome old (λ left. IsFront left n out)
  pub gone : new ≡ option_map (λ left. drop n left) old

-- nothing is left
abbrev pub emptied : Option (List ℕ) → Option (List ℕ)
emptied content = option_map (λ _. []) content

-- a source in memory
pub record SourceInMemory : Type 0 where
  pub left : List ℕ
  pub calls : Calls
