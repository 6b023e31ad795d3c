-- A GUID's fields as the code keeps them.
use Rattle.std.specs.Prelude.{ℕ, ◌^◌, ◌<◌, List, [], ◌∷◌}
use Rattle.bd_text.specs.declared.guid.Fields.{Fields}

-- how many digits each field has, and its number
abbrev pub written : Fields → List (ℕ × ℕ)
written f = (8, f.low) ∷ (4, f.middle) ∷ (4, f.high) ∷ (4, f.clock) ∷ (12, f.node) ∷ []

-- each number has as many digits
pub record FieldsFit (f : Fields) : Type 0 where
  pub low_fits : f.low < 16 ^ 8
  pub middle_fits : f.middle < 16 ^ 4
  pub high_fits : f.high < 16 ^ 4
  pub clock_fits : f.clock < 16 ^ 4
  pub node_fits : f.node < 16 ^ 12
