-- Whole lines at the front of a text.
use Rattle.std.specs.Prelude.{◌≡◌, ◌⊎◌, ℕ, List, [], ◌++◌, Option, codes}
use Rattle.bd_dev.specs.Sink.{Appends}

-- the text is empty, or its last line has its end
abbrev pub AreLines : List ℕ → Type 0
AreLines text = (text ≡ []) ⊎ ((front : List ℕ) × (text ≡ front ++ codes "\n"))

-- whole lines at the front of a text were taken
pub record AppendsLines (old new : Option (List ℕ)) (text : List ℕ) : Type 0 where
  pub lines : List ℕ
  pub rest : List ℕ
  pub is : text ≡ lines ++ rest
  pub whole : AreLines lines
  pub taken : Appends old new lines
