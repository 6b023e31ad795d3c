-- What a network in memory holds.
use Rattle.std.specs.Prelude.{ℕ, Bool, List, Option}
use Rattle.bd_dev.specs.Calls.{Calls}
use Rattle.bd_dev.specs.Rows.{Row}
use Rattle.bd_dev.specs.Net.{OpenFlow, Outgoing}

-- its rows, its flows by their numbers, what was sent, and its calls
pub record NetInMemory : Type 0 where
  pub rows : List Row
  pub late : Bool
  pub time : ℕ
  pub flows : List (Option OpenFlow)
  pub sent : List Outgoing
  pub calls : Calls
