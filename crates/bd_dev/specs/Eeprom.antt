-- What an EEPROM holds.
use Rattle.std.specs.Prelude.{◌≡◌, ℕ, ◌≤◌, List, ◌++◌, length, take, drop, Option, option_map}
use Rattle.std.specs.Option.{ForSome}
use Rattle.bd_dev.specs.Calls.{Calls}

-- out begins with n loaded bytes, which are the whole content where that is told
pub record Loads (content : Option (List ℕ)) (n : ℕ) (out : List ℕ) : Type 0 where
  pub bound : n ≤ 2048
  pub told : ForSome content (λ bytes. take n out ≡ bytes)

-- the bytes stand at the front of the content now, and behind them it is as before
abbrev pub Stores : Option (List ℕ) → Option (List ℕ) → List ℕ → Type 0
Stores old new bytes = new ≡ option_map (λ content. bytes ++ drop (length bytes) content) old

-- an EEPROM in memory
pub record EepromInMemory : Type 0 where
  pub bytes : List ℕ
  pub calls : Calls
