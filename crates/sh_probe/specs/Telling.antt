-- What is printed of an installer.
use Rattle.std.specs.Prelude.{◌≡◌, ℕ, Bool, true, false, List, ◌++◌, codes}
use Rattle.std.specs.Fmt.{decimal}
use Rattle.sh_tree.specs.declared.AndOr.{AndOr}
use Rattle.sh_parser.specs.declared.SyntaxKind.{SyntaxKind}
use Rattle.sh_parser.specs.declared.SyntaxKind.TheVariants.{Unexpected, Unclosed, LeftOut, Deep, Nul}
use Rattle.sh_parser.specs.Grammar.{IsProgram}
use Rattle.sh_parser.specs.Laws.{IsFault}
use Rattle.sh_script.specs.Splitting.{Splits}

abbrev pub kind_text : SyntaxKind → List ℕ
kind_text Unexpected = codes "unexpected"
kind_text Unclosed = codes "unclosed"
kind_text LeftOut = codes "left out"
kind_text Deep = codes "too deep"
kind_text Nul = codes "a 00 byte"

abbrev pub fault_text : ℕ → SyntaxKind → List ℕ
fault_text line kind = codes "line " ++ (decimal line ++ (codes ": " ++ (kind_text kind ++ codes "\n")))

abbrev pub no_fault : List ℕ
no_fault = codes "no fault\n"

-- what is printed of a script that is a program, or of its first fault
abbrev pub Says : List ℕ → List ℕ → Bool → Type 0
Says script text true = (text ≡ no_fault) × (tree : List AndOr) × IsProgram script tree
Says script text false = (line : ℕ) × (kind : SyntaxKind) × (text ≡ fault_text line kind) × IsFault script line kind

-- what is printed of an installer is what is said of its script
pub record Tells (installer text : List ℕ) (sound : Bool) : Type 0 where
  pub script : List ℕ
  pub payload : List ℕ
  pub splits : Splits true installer script payload
  pub says : Says script text sound
