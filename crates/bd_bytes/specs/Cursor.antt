use Rattle.std.specs.Prelude.{ℕ, ◌+◌, List, drop}

-- where a cursor stands: how many bytes it has passed, and the bytes that are left
pub record At : Type 0 where
  pub place : ℕ
  pub left : List ℕ

-- the cursor n bytes further on
abbrev pub passed : ℕ → At → At
passed n at = record { place = at.place + n; left = drop n at.left }
