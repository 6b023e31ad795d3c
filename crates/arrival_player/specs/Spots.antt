-- What comes at a spot.
use Rattle.std.specs.Prelude.{ℕ}
use Rattle.bd_dev.specs.Rows.{TimedArrival}
use Rattle.bd_dev.specs.declared.net.Arrival.{Arrival}
use Rattle.arrival_player.specs.declared.feeds.Spot.{Spot}

-- the arrival at a spot of feeds, with its time
abbrev pub timed_of : (ℕ → ℕ → Arrival) → Spot → TimedArrival
timed_of arrival spot = record { at = spot.at; arrival = arrival spot.feed spot.part }
