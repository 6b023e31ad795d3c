use Rattle.std.proofs.Common.{◌≡◌, List, Option, length}
use Rattle.bd_dev.specs.Net.{Outgoing}
use Rattle.flow.specs.declared.flows.Flow.{Flow}
use Rattle.flow.specs.Sends.{ArePosted}
use Rattle.flow.specs.Running.{AreInProgress, FollowOwnRuns, no_counts, calls_left}
use Rattle.flow.proofs.event_loop.race.Given as goal

abbrev pub invariant-loop-place : goal.invariant-loop-place
invariant-loop-place g l = record {
  progress : AreInProgress g.C.Core.acts g.C.Core.HasBegun l.opening.start l.opening.round l.opening.first (length l.flows) l.flows l.counts (g.N.Net.open_flow l.net) (g.N.Net.time l.net) l.sends.items;
  follow : (flows0 : List (Flow g.row.C.Denot)) → FollowOwnRuns g.C.Core.acts l.opening.start l.opening.round l.opening.first (length l.fn.flows) flows0 l.fn.flows no_counts (g.N.Net.rows l.fn.net) l.opening.start l.fn.sends.items
      → FollowOwnRuns g.C.Core.acts l.opening.start l.opening.round l.opening.first (length l.flows) flows0 l.flows l.counts (g.N.Net.rows l.fn.net) (g.N.Net.time l.net) l.sends.items;
  posted : (start : Option (List Outgoing)) → ArePosted l.fn.sends.items start (g.N.Net.sent l.fn.net) → ArePosted l.sends.items start (g.N.Net.sent l.net);
  opened : g.N.Net.opened l.net ≡ g.N.Net.opened l.fn.net;
  rows : g.N.Net.rows l.net ≡ g.N.Net.rows l.fn.net;
  faults : g.N.Net.faults l.net ≡ g.N.Net.faults l.fn.net;
}

abbrev pub decreases-loop-place : goal.decreases-loop-place
decreases-loop-place g l = calls_left g.C.Core.acts l.flows l.counts
