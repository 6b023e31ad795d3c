-- Fronts of a text that a pattern matches: POSIX.1-2017, Shell Command Language, 2.6.2.
use Rattle.std.specs.Prelude.{◌≡◌, ◌≤◌, ℕ, Bool, true, false, List, [], ◌∷◌, length, Option, Some, None}
use Rattle.std.specs.Borrow.{Bor}
use Rattle.sh_expand.specs.Pattern.{Text, Item, Star, takes}

-- the items match a front of the text, and the rest follows it
pub data Begins : List Item → Text → Text → Type 0 where
  ends : {t : Text} → Begins [] t t
  byte : {i : Item} {is : List Item} {c : ℕ} {t r : Text} → takes i c ≡ true → Begins is t r → Begins (i ∷ is) (c ∷ t) r
  star_ends : {is : List Item} {t r : Text} → Begins is t r → Begins (Star ∷ is) t r
  star_goes : {is : List Item} {c : ℕ} {t r : Text} → Begins (Star ∷ is) t r → Begins (Star ∷ is) (c ∷ t) r

-- no front leaves less, where the longest is wanted, or more
abbrev pub Leaves : Bool → Text → Text → Type 0
Leaves true rest other = length rest ≤ length other
Leaves false rest other = length other ≤ length rest

-- what is left of a text without its shortest or longest front that the items match
pub record IsCut (items : List Item) (text : Text) (longest : Bool) (rest : Text) : Type 0 where
  pub matches : Begins items text rest
  pub best : (other : Text) → Begins items text other → Leaves longest rest other

-- no front matches
pub record NoCut (items : List Item) (text : Text) : Type 0 where
  pub none : (other : Text) → Begins items text other → ⊥

abbrev pub Cuts : List Item → Text → Bool → Option (Bor (List ℕ)) → Type 0
Cuts items text longest None = NoCut items text
Cuts items text longest (Some rest) = IsCut items text longest rest.now
