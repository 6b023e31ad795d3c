use Rattle.std.proofs.Common.{◌≡◌, ◌≤◌, ◌-◌, length}
use Rattle.bd_dev.proofs.SourceFronts.{HasRead}
use Rattle.bd_dev.proofs.source.read_source.Given as goal

abbrev pub invariant-loop-piece : goal.invariant-loop-piece
invariant-loop-piece g l = record {
  read : HasRead (g.S.Source.left l.fn.source) (g.S.Source.left l.source) l.text;
  few : length l.text ≤ l.most;
  quiet : g.S.Source.faults l.source ≡ g.S.Source.faults l.fn.source;
  room : length l.piece ≡ 16384;
}

abbrev pub decreases-loop-piece : goal.decreases-loop-piece
decreases-loop-piece g l = l.most - length l.text
