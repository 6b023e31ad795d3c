-- Names and their values.
use Rattle.std.specs.Prelude.{◌≡◌, ℕ, ◌==◌, if◌then◌else◌, ℤ, pos, neg_ℤ, List, [], ◌∷◌, Option, Some, None}
use Rattle.std.specs.Str.{bytes_eq}
use Rattle.sh_arith.specs.Text.{Text}
use Rattle.sh_arith.specs.Constant.{constant}
use Rattle.sh_arith.specs.Number.{fitting}

-- names with their values
abbrev pub Variables : Type 0
Variables = List (Text × Text)

-- the value of the first pair with this name
abbrev pub lookup : Text → Variables → Option Text
lookup name [] = None
lookup name (pair ∷ pairs) = if bytes_eq pair.0 name then Some pair.1 else lookup name pairs

-- a constant that is the whole text, with a sign
abbrev pub signed : (ℤ → ℤ) → Option (ℕ × Text) → Option ℤ
signed f None = None
signed f (Some (n, [])) = fitting (f (pos n))
signed f (Some (n, _ ∷ _)) = None

-- the number that a name's value writes: nothing is 0, else an optional sign and one constant
abbrev pub written : Text → Option ℤ
written [] = Some (pos 0)
written (c ∷ t) =
    if c == 45 then signed neg_ℤ (constant t)
    else if c == 43 then signed (λ x. x) (constant t)
    else signed (λ x. x) (constant (c ∷ t))

-- what a value stands for: an absent one for 0
abbrev pub meant : Option Text → Option ℤ
meant None = Some (pos 0)
meant (Some text) = written text

abbrev pub named : Variables → Text → Option ℤ
named variables name = meant (lookup name variables)
