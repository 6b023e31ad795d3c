-- The rows and the sent bytes of a network in memory.
use Rattle.std.specs.Prelude.{ℕ, List, option_map, slice_get, unwrap_or}
use Rattle.bd_dev.specs.declared.net.Arrival.{Arrival}
use Rattle.bd_dev.specs.declared.net.Arrival.TheVariants.{End}
use Rattle.bd_dev.specs.Rows.{Row}
use Rattle.bd_dev.specs.Net.{Outgoing}
use Rattle.list_net.specs.declared.list_row.ListRow.{ListRow}
use Rattle.list_net.specs.declared.list_net.ListSend.{ListSend}

-- the row of the network that this one is
abbrev pub row_of : ListRow → Row
row_of r = record { round = r.round; label = r.label; at = r.at; arrival = r.arrival }

-- what was sent, as contracts see it
abbrev pub outgoing_of : ListSend → Outgoing
outgoing_of s = record { at = s.at; flow = s.flow; port = s.port; bytes = s.bytes }

-- the arrival of a row; where there is none, an end
abbrev pub arrival_at : List Row → ℕ → ℕ → Arrival
arrival_at rows feed part = unwrap_or (option_map (λ r. r.arrival) (slice_get rows feed)) End
