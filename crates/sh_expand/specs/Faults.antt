-- What calls that may lack memory answer.
use Rattle.std.specs.Prelude.{◌≡◌, ◌<◌, ◌≤◌, ℕ, length, Result, Ok, Err}
use Rattle.sh_expand.specs.declared.fault.ExpandFault.{ExpandFault}
use Rattle.sh_expand.specs.declared.fault.ExpandFault.TheVariants.{Bad, TextLong, Memory}
use Rattle.sh_expand.specs.Pattern.{Text}

-- the text, if it is not longer than this
abbrev pub IsFieldOf : ℕ → Text → Result Text ExpandFault → Type 0
IsFieldOf most text (Ok field) = (field ≡ text) × (length text ≤ most)
IsFieldOf most text (Err TextLong) = most < length text
IsFieldOf most text (Err Memory) = Unit {0}
IsFieldOf most text (Err Bad) = ⊥
