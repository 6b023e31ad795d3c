-- Changes of variables.
use Rattle.std.specs.Prelude.{ℕ, ◌+◌, not, if◌then◌else◌, [], ◌∷◌, length, false, filter}
use Rattle.std.specs.Str.{bytes_eq}
use Rattle.sh_arith.specs.Text.{Text}
use Rattle.sh_arith.specs.Names.{Variables}
use Rattle.sh_expand.specs.State.{Environment}

-- the first pair of this name has the value now, or there is one more
abbrev pub put : Text → Text → Variables → Variables
put name value [] = (name, value) ∷ []
put name value (pair ∷ pairs) = if bytes_eq pair.0 name then (pair.0, value) ∷ pairs else pair ∷ put name value pairs

-- no pair of this name
abbrev pub without : Text → Variables → Variables
without name variables = filter (λ pair. not (bytes_eq pair.0 name)) variables

-- how many bytes names and values have together
abbrev pub size : Variables → ℕ
size [] = 0
size (pair ∷ pairs) = length pair.0 + length pair.1 + size pairs

-- an environment at its beginning
abbrev pub begun : Variables → Environment
begun variables = record { variables = variables; words = []; flags = record { errexit = false; nounset = false }; last = 0 }
