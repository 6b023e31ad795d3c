-- What a shell's environment is seen as.
use Rattle.std.specs.Prelude.{ℕ, List}
use Rattle.sh_arith.specs.Names.{Variables}
use Rattle.sh_expand.specs.declared.env.Flags.{Flags}

-- the variables in the order in which they were first set, positional words, options and last status
pub record Environment : Type 0 where
  pub variables : Variables
  pub words : List (List ℕ)
  pub flags : Flags
  pub last : ℕ
