use Rattle.std.specs.Prelude.{◌≡◌, ℕ, ◌<◌, ◌==◌, All, List, length, find, Option}
use Rattle.std.specs.List.{AllAdjacentBelow}
use Rattle.bd_codes.specs.declared.row.Row.{Row}

-- the codes rise strictly: each row's is below the next one's
abbrev pub Rises : List Row → Type 0
Rises rows = AllAdjacentBelow (λ row next. row.code < next.code) rows (length rows)

-- the first row of a code
abbrev pub row_at : List Row → ℕ → Option Row
row_at rows code = find (λ row. row.code == code) rows

-- the one row of a code: it has the code, and each row that has it is this one
pub record IsOneRow (rows : List Row) (code : ℕ) (row : Row) : Type 0 where
  pub has_code : row.code ≡ code
  pub only : All (λ other. other.code ≡ code → other ≡ row) rows
