-- What a sink took, where it tells.
use Rattle.std.specs.Prelude.{◌≡◌, ℕ, ◌<◌, ◌≤◌, List, ◌++◌, length, take, Option, option_map}
use Rattle.bd_dev.specs.Calls.{Calls}

-- the bytes were taken at the end
abbrev pub Appends : Option (List ℕ) → Option (List ℕ) → List ℕ → Type 0
Appends old new bytes = new ≡ option_map (λ taken. taken ++ bytes) old

-- a front of the bytes was taken at the end
pub record AppendsFront (old new : Option (List ℕ)) (bytes : List ℕ) : Type 0 where
  pub count : ℕ
  pub within : count ≤ length bytes
  pub front : Appends old new (take count bytes)

-- one write took the first n of the bytes, at least one where there is one
pub record Takes (old new : Option (List ℕ)) (n : ℕ) (bytes : List ℕ) : Type 0 where
  pub fits : n ≤ length bytes
  pub moves : 0 < length bytes → 0 < n
  pub appended : Appends old new (take n bytes)

-- a sink in memory
pub record SinkInMemory : Type 0 where
  pub taken : List ℕ
  pub calls : Calls
