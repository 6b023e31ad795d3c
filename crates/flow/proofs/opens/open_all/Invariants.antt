use Rattle.std.proofs.Common.{◌≡◌, ◌<◌, ◌+◌}
use Rattle.flow.specs.Running.{IsOpening}
use Rattle.flow.proofs.opens.open_all.Given as goal

abbrev pub invariant-loop-place : goal.invariant-loop-place
invariant-loop-place g l = record {
  opening : IsOpening g.C.Core.acts g.C.Core.HasBegun (g.N.Net.time l.fn.net) l.round (g.N.Net.opened l.fn.net) l.place l.fn.flows l.flows (g.N.Net.open_flow l.net) (g.N.Net.rows l.fn.net) l.sends.items (g.N.Net.sent l.fn.net) (g.N.Net.sent l.net);
  opened : g.N.Net.opened l.net ≡ g.N.Net.opened l.fn.net + l.place;
  zero_first : l.place ≡ 0 → l.first ≡ 0;
  number : 0 < l.place → l.first ≡ g.N.Net.opened l.fn.net;
  time : g.N.Net.time l.net ≡ g.N.Net.time l.fn.net;
  rows : g.N.Net.rows l.net ≡ g.N.Net.rows l.fn.net;
  faults : g.N.Net.faults l.net ≡ g.N.Net.faults l.fn.net;
}
