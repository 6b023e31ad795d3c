-- What a player holds.
use Rattle.std.specs.Prelude.{◌≡◌, ℕ, ◌+◌, ◌≤◌, Bool, List, length, Option, Some, None, unwrap_or, slice_get}
use Rattle.std.proofs.Common.{ap}
use Rattle.std.proofs.lemmas.Option.{slice_get_past}
use Rattle.bd_dev.specs.Net.{OpenFlow}
use Rattle.bd_dev.specs.Rows.{Row, TimedArrival, arrivals}
use Rattle.bd_dev.specs.declared.net.Next.{Next}
use Rattle.bd_dev.specs.declared.net.Next.TheVariants.{Came, Quiet}
use Rattle.arrival_player.specs.Earliest.{Precedes}

-- all that comes to flows, which flow's arrival goes first of those of one time, the time, and the flows by their numbers
pub record Played : Type 0 where
  pub rows : List Row
  pub late : Bool
  pub time : ℕ
  pub flows : List (Option OpenFlow)

-- the open flow of a number
abbrev pub flow_at : List (Option OpenFlow) → ℕ → Option OpenFlow
flow_at flows number = unwrap_or (slice_get flows number) None

-- the flow's next arrival comes at this time
pub record ComesAt (rows : List Row) (flow : OpenFlow) (time : ℕ) : Type 0 where
  pub next : TimedArrival
  pub stands : slice_get (arrivals rows flow.round flow.label) flow.given ≡ Some next
  pub comes : time ≡ flow.since + next.at

-- of the open flows whose next arrival comes at this time, the one opened last where late, else first
abbrev pub IsPicked : Bool → List Row → (ℕ → Option OpenFlow) → Next → ℕ → Type 0
IsPicked late rows flows (Came number arrival) time = (other : ℕ) (flow : OpenFlow)
    → flows other ≡ Some flow → ComesAt rows flow time → Precedes late number other
IsPicked late rows flows Quiet time = Unit {0}

-- a number past all flows is no open flow's
pub flow_past : (flows : List (Option OpenFlow)) (n : ℕ) → length flows ≤ n → flow_at flows n ≡ None
flow_past flows n past = let or_none : Option (Option OpenFlow) → Option OpenFlow = λ o. unwrap_or o None in ap or_none (slice_get_past flows n past)
