-- In what a part of a word stands.
use Rattle.std.specs.Prelude.{ℕ, Bool, true, false}
use Rattle.sh_parser.specs.declared.words.Mode.{Mode}
use Rattle.sh_parser.specs.declared.words.Mode.TheVariants.{Bare, Double, Braces, QuotedBraces, Arithmetic}

abbrev pub is_double : Mode → Bool
is_double Bare = false
is_double Double = true
is_double Braces = false
is_double QuotedBraces = false
is_double Arithmetic = false

-- how many calls deeper than in double quotes
abbrev pub rank : Mode → ℕ
rank Bare = 2
rank Double = 0
rank Braces = 2
rank QuotedBraces = 2
rank Arithmetic = 2
