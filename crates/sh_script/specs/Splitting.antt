-- An installer: its script, which runs through the first line that is just `exit_marker`, and the payload behind that.
use Rattle.std.specs.Prelude.{◌≡◌, ◌==◌, ℕ, Bool, true, List, [], ◌∷◌, ◌++◌, codes}

abbrev pub Text : Type 0
Text = List ℕ

-- the line that ends a script, with its line end
abbrev pub marker : Text
marker = codes "exit_marker\n"

-- the script and the payload of what is left of an installer, which stands at the start of a line or within one
pub data Splits : Bool → Text → Text → Text → Type 0 where
  ends : {starts : Bool} → Splits starts [] [] []
  marked : {text payload : Text} → text ≡ marker ++ payload → Splits true text marker payload
  goes : {starts : Bool} {c : ℕ} {text script payload : Text} →
      (starts ≡ true → (rest : Text) → c ∷ text ≡ marker ++ rest → ⊥) → Splits (c == 10) text script payload → Splits starts (c ∷ text) (c ∷ script) payload
