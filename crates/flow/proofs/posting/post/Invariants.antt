use Rattle.std.proofs.Common.{◌≡◌, ℕ, map, take}
use Rattle.flow.specs.Sends.{Files, PostsAll, sent_at}
use Rattle.flow.proofs.posting.post.Given as goal

abbrev pub invariant-loop-letter : goal.invariant-loop-letter
invariant-loop-letter g l = record {
  files : Files (g.N.Net.time l.fn.net) l.flow (map (sent_at (g.N.Net.time l.fn.net) l.round l.flow l.label) (take l.letter-index l.letter-items)) l.fn.sends.items l.sends.items;
  posts : PostsAll (map (sent_at (g.N.Net.time l.fn.net) l.round l.flow l.label) (take l.letter-index l.letter-items)) (g.N.Net.sent l.fn.net) (g.N.Net.sent l.net);
  flows : (n : ℕ) → g.N.Net.open_flow l.net n ≡ g.N.Net.open_flow l.fn.net n;
  opened : g.N.Net.opened l.net ≡ g.N.Net.opened l.fn.net;
  time : g.N.Net.time l.net ≡ g.N.Net.time l.fn.net;
  rows : g.N.Net.rows l.net ≡ g.N.Net.rows l.fn.net;
  faults : g.N.Net.faults l.net ≡ g.N.Net.faults l.fn.net;
}
