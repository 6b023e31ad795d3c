-- The grammar's laws, and what `parse` answers.
use Rattle.std.specs.Prelude.{◌≡◌, ◌==◌, ℕ, ◌+◌, ◌-◌, List, length, take, count_by}
use Rattle.sh_tree.specs.declared.AndOr.{AndOr}
use Rattle.sh_parser.specs.declared.SyntaxKind.{SyntaxKind}
use Rattle.sh_text.specs.Front.{Text}
use Rattle.sh_parser.specs.Grammar.{IsProgram, IsFaultAt}

-- the line of the place at which this rest begins, from 1
abbrev pub line_at : Text → Text → ℕ
line_at text rest = 1 + count_by (λ c. c == 10) (take (length text - length rest) text)

-- a text whose first fault is of this kind, on this line
abbrev pub IsFault : Text → ℕ → SyntaxKind → Type 0
IsFault text line kind = (rest : Text) × IsFaultAt text kind rest × (line ≡ line_at text rest)

-- a text is at most one program, and none with a fault; and it has one first fault at most
pub record Once : Type 0 where
  pub one : (text : Text) (a b : List AndOr) → IsProgram text a → IsProgram text b → a ≡ b
  pub not_both : (text rest : Text) (tree : List AndOr) (kind : SyntaxKind) → IsProgram text tree → IsFaultAt text kind rest → ⊥
  pub one_fault : (text r s : Text) (k j : SyntaxKind) → IsFaultAt text k r → IsFaultAt text j s → (k ≡ j) × (r ≡ s)
