-- Calls of a device in memory, some of which are to fail.
use Rattle.std.specs.Prelude.{ℕ, List, Bool, Contains, if◌then◌else◌}
use Rattle.bd_dev.specs.Faults.{one_more}

-- how many calls were made, the numbers from 1 of those that are to fail, and the count of faults
pub record Calls : Type 0 where
  pub made : ℕ
  pub fails : List ℕ
  pub faults : ℕ

-- before the first call
abbrev pub no_calls : List ℕ → Calls
no_calls fails = record { made = 0; fails = fails; faults = 0 }

-- the next call is to fail
abbrev pub IsListed : Calls → Type 0
IsListed calls = Contains calls.fails (one_more calls.made)

-- after one call more, which failed or not
abbrev pub after_call : Calls → Bool → Calls
after_call calls failed =
    let faults = if failed then one_more calls.faults else calls.faults in
    record calls { made = one_more calls.made; faults = faults }
