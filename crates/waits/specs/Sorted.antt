-- Rows in order of time.
use Rattle.std.specs.Prelude.{◌≡◌, ◌≤◌, ℕ, ◌==◌, List, [], ◌∷◌, filter}
use Rattle.std.specs.List.{AllByRecursion}
use Rattle.bd_dev.specs.Rows.{Row}

-- no row is before one that stands ahead of it
abbrev pub AreByTime : List Row → Type 0
AreByTime [] = Unit {0}
AreByTime (row ∷ rows) = AllByRecursion (λ next. row.at ≤ next.at) rows × AreByTime rows

-- the rows of this time
abbrev pub at_time : ℕ → List Row → List Row
at_time time rows = filter (λ row. row.at == time) rows

-- the same rows in order of time, and those of one time in the order in which they stand
pub record IsSorted (rows sorted : List Row) : Type 0 where
  pub ordered : AreByTime sorted
  pub each : (time : ℕ) → at_time time sorted ≡ at_time time rows
