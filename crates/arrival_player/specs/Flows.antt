-- What is kept of open flows.
use Rattle.std.specs.Prelude.{◌≡◌, ℕ, ◌+◌, ◌^◌, ◌<◌, ◌≤◌, List, length, map, Option, Some, None, option_map, slice_get, slice_set}
use Rattle.bd_dev.specs.declared.net.Arrival.{Arrival}
use Rattle.bd_dev.specs.Net.{OpenFlow}
use Rattle.bd_dev.specs.Rows.{Row, arrivals}
use Rattle.arrival_player.specs.Spots.{timed_of}
use Rattle.arrival_player.specs.declared.feeds.Spot.{Spot}
use Rattle.arrival_player.specs.declared.flows.Flow.{Flow}

-- an open flow as contracts see it
abbrev pub flow_of : Flow → OpenFlow
flow_of f = record { since = f.since; round = f.round; label = f.label; given = f.given }

-- the flows by their numbers
abbrev pub flows_of : List (Option Flow) → List (Option OpenFlow)
flows_of flows = map (option_map flow_of) flows

-- a flow has the spots of what comes to its label in its round, and the next one is not overdue
pub record StandsAt
    (arrival : ℕ → ℕ → Arrival) (rows : List Row) (time : ℕ) (f : Flow) : Type 0 where
  pub mine : map (timed_of arrival) f.spots.items ≡ arrivals rows f.round f.label
  pub due : (s : Spot) → slice_get f.spots.items f.given ≡ Some s → time ≤ f.since + s.at

-- the first n flows are closed
abbrev pub AreClosed : List (Option Flow) → ℕ → Type 0
AreClosed flows n = (k : ℕ) → k < n → slice_get flows k ≡ Some None

-- what holds of the fields of every player
pub record IsSound
    (arrival : ℕ → ℕ → Arrival) (rows : List Row) (flows : List (Option Flow)) (time shut : ℕ)
    : Type 0 where
  pub few : length flows < 2 ^ 32
  pub closed : AreClosed flows shut
  pub stands : (number : ℕ) (f : Flow) → slice_get flows number ≡ Some (Some f)
      → StandsAt arrival rows time f

-- the flow of this number is open, and an arrival is still to come to it
pub record WaitsAt (flows : List (Option Flow)) (number : ℕ) : Type 0 where
  pub f : Flow
  pub here : slice_get flows number ≡ Some (Some f)
  pub waits : f.given < length f.spots.items

-- the next arrival of the open flow of this number stands there
abbrev pub IsAt : List (Option Flow) → ℕ → Spot → Type 0
IsAt flows number spot =
    (f : Flow) → slice_get flows number ≡ Some (Some f) → slice_get f.spots.items f.given ≡ Some spot

-- the open flow of this number was given its next arrival, and the others stay
pub record AdvancesAt (old new : List (Option Flow)) (number : ℕ) : Type 0 where
  pub f : Flow
  pub here : slice_get old number ≡ Some (Some f)
  pub set : new ≡ slice_set old number (Some (record f { given = f.given + 1 }))
