use Rattle.std.specs.Prelude.{ℕ, Bool, ◌&&◌, nat_le}
use Rattle.bd_codes.specs.declared.row.Row.{Row}

-- a value of the row's code may have this length
abbrev pub row_allows : Row → ℕ → Bool
row_allows row length = nat_le row.least length && nat_le length row.greatest
