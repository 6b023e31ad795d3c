-- Tests in an order, of which the first that fails decides.
use Rattle.std.specs.Prelude.{◌⊎◌}

-- this comes where the test fails, and else the rest decides
abbrev pub Unless : Type 0 → Type 0 → Type 0 → Type 0
Unless test failed rest = (¬ test × failed) ⊎ (test × rest)
