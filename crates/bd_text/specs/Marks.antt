-- The marks between the parts of a text.
use Rattle.std.specs.Prelude.{ℕ}

-- `:`
abbrev pub colon : ℕ
colon = 58

-- `.`
abbrev pub dot : ℕ
dot = 46

-- `-`
abbrev pub dash : ℕ
dash = 45
