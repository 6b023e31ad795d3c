-- Ends of a text that a pattern matches: POSIX.1-2017, Shell Command Language, 2.6.2.
use Rattle.std.specs.Prelude.{◌≡◌, ℕ, Bool, List, ◌++◌, Option, Some, None}
use Rattle.std.specs.Borrow.{Bor}
use Rattle.sh_expand.specs.Pattern.{Text, Item, Matches}
use Rattle.sh_expand.specs.Cut.{Leaves}

-- the text is what is left, and an end that the items match
pub record IsEnd (items : List Item) (text rest : Text) : Type 0 where
  pub end : Text
  pub parts : text ≡ rest ++ end
  pub matches : Matches items end

-- what is left of a text without its shortest or longest end that the items match
pub record IsCutEnd (items : List Item) (text : Text) (longest : Bool) (rest : Text) : Type 0 where
  pub matches : IsEnd items text rest
  pub best : (other : Text) → IsEnd items text other → Leaves longest rest other

-- no end matches
pub record NoCutEnd (items : List Item) (text : Text) : Type 0 where
  pub none : (other : Text) → IsEnd items text other → ⊥

abbrev pub CutsEnd : List Item → Text → Bool → Option (Bor (List ℕ)) → Type 0
CutsEnd items text longest None = NoCutEnd items text
CutsEnd items text longest (Some rest) = IsCutEnd items text longest rest.now
