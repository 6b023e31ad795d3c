use Rattle.std.proofs.Common.{◌≡◌, ◌++◌, None}
use Rattle.std.specs.Option.{ForSome}
use Rattle.std.specs.Vec.Iter.{into_iter_items}
use Rattle.net_script.specs.Serving.{AreBodies, first_lacking, served}
use Rattle.net_script.proofs.serving.serve.Given as goal

abbrev pub invariant-loop-numbered : goal.invariant-loop-numbered
invariant-loop-numbered g l = record {
  kept : g.M.Media.content l.media ≡ g.M.Media.content l.fn.media;
  quiet : g.M.Media.faults l.media ≡ g.M.Media.faults l.fn.media;
  left : l.fn.lines.items ≡ l.yielded ++ into_iter_items l.numbered-iterator;
  known : ForSome (g.M.Media.content l.fn.media) (λ volumes. AreBodies volumes l.known);
  told : ForSome (g.M.Media.content l.fn.media) (λ volumes. (l.feeds.items ≡ served volumes l.yielded) × (first_lacking volumes l.yielded ≡ None));
}
