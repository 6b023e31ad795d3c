use Rattle.std.proofs.Common.{◌≡◌, ◌≤◌, ◌-◌, length, take}
use Rattle.std.specs.Option.{ForSome}
use Rattle.bd_dev.specs.Volumes.{bytes_of}
use Rattle.bd_dev.proofs.media.read_file.Given as goal

abbrev pub invariant-loop-piece : goal.invariant-loop-piece
invariant-loop-piece g l = record {
  within : length l.body ≤ l.size;
  front : ForSome (g.M.Media.content l.fn.media) (λ volumes. l.body ≡ take (length l.body) (bytes_of volumes l.volume l.name));
  kept : g.M.Media.content l.media ≡ g.M.Media.content l.fn.media;
  quiet : g.M.Media.faults l.media ≡ g.M.Media.faults l.fn.media;
}

abbrev pub decreases-loop-piece : goal.decreases-loop-piece
decreases-loop-piece g l = l.size - length l.body
