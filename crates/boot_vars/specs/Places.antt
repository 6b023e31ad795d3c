-- Where the line of a name stands in a text of variables.
use Rattle.std.specs.Prelude.{◌≡◌, ◌⊎◌, ℕ, ◌++◌, List, [], ◌∷◌, length, None}
use Rattle.storage_model.specs.Variables.{Spells, Variable, lines_of, value_among}

-- the variable of this name alone, or none of it and none behind
abbrev pub AreNamed : List ℕ → List Variable → List Variable → Type 0
AreNamed name these after = ((v : Variable) × (v.name ≡ name) × (these ≡ v ∷ [])) ⊎ ((these ≡ []) × (after ≡ []))

-- So many bytes from here on are the line of this name, and the first such; or they are none, at the end of a text that
-- has no such line.
pub record IsPlace (text name : List ℕ) (at size : ℕ) : Type 0 where
  pub before : List Variable
  pub these : List Variable
  pub after : List Variable
  pub spells : Spells text (before ++ (these ++ after))
  pub other : value_among before name ≡ None
  pub named : AreNamed name these after
  pub at_is : at ≡ length (lines_of before)
  pub size_is : size ≡ length (lines_of these)
