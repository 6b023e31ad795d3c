use Rattle.std.proofs.Common.{◌≡◌, filter, map, take}
use Rattle.arrival_player.specs.Spots.{timed_of}
use Rattle.bd_dev.specs.Rows.{is_for, timed_of as timed_row}
use Rattle.list_net.specs.Rows.{arrival_at, row_of}
use Rattle.list_net.proofs.list_feeds.spots_of.Given as goal

abbrev pub invariant-loop-feed : goal.invariant-loop-feed
invariant-loop-feed l = map (timed_of (arrival_at (map row_of l.rows))) l.spots.items ≡ map timed_row (filter (is_for l.round l.label) (take l.feed (map row_of l.rows)))
