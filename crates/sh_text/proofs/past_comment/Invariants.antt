use Rattle.std.proofs.Common.{◌≡◌, ◌≤◌, length}
use Rattle.sh_text.specs.Front.{comment}
use Rattle.sh_text.proofs.past_comment.Given as goal

abbrev pub invariant-bytes : goal.invariant-bytes
invariant-bytes l = record {
  same : comment l.over l.rest ≡ comment l.over l.text;
  shorter : length l.rest ≤ length l.text;
}

abbrev pub decreases-bytes : goal.decreases-bytes
decreases-bytes l = length l.rest
