-- What the reader of expressions answers.
use Rattle.std.specs.Prelude.{◌≡◌, ◌≤◌, ◌<◌, ℕ, length, Bool, IsTrue, IsSome, ℤ, Option, Some, None, Result, Ok, Err}
use Rattle.sh_arith.specs.declared.reader.Bad.{Bad}
use Rattle.sh_arith.specs.declared.reader.Found.{Found}
use Rattle.sh_arith.specs.Text.{Text}
use Rattle.sh_arith.specs.Names.{Variables}
use Rattle.sh_arith.specs.Tree.{Expression, height, value}

-- the value where it's needed, or an error
abbrev pub Comes : Bool → Option ℤ → Result ℤ Bad → Type 0
Comes needed value (Ok v) = IsTrue needed → value ≡ Some v
Comes needed value (Err _) = IsTrue needed × (value ≡ None)

-- an expression that may stand where so many more may be opened, and where its value is needed or not
pub record IsAllowed (variables : Variables) (depth : ℕ) (needed : Bool) (e : Expression) : Type 0 where
  pub low : height e ≤ depth
  pub comes : IsTrue needed → IsSome (value variables e)

-- what was found stands at the front of the text
pub record Stands (X : Text → Expression → Text → Type 0) (variables : Variables) (depth : ℕ) (needed : Bool) (text : Text) (found : Found) : Type 0 where
  pub tree : Expression
  pub reads : X text tree found.rest.now
  pub high : height tree ≡ found.height
  pub low : found.height ≤ depth
  pub comes : IsTrue needed → value variables tree ≡ Some found.value
  pub shorter : length found.rest.now < length text

-- nothing that may stand does
pub record StandsNot (X : Text → Expression → Text → Type 0) (variables : Variables) (depth : ℕ) (needed : Bool) (text : Text) : Type 0 where
  pub none : (e : Expression) (rest : Text) → X text e rest → IsAllowed variables depth needed e → ⊥

abbrev pub Answers : (Text → Expression → Text → Type 0) → Variables → ℕ → Bool → Text → Result Found Bad → Type 0
Answers X variables depth needed text (Ok found) = Stands X variables depth needed text found
Answers X variables depth needed text (Err _) = StandsNot X variables depth needed text
