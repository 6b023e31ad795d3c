use Rattle.std.proofs.Common.{length}
use Rattle.sh_text.proofs.+follow.Given as goal

abbrev pub decreases-follow : goal.decreases-follow
decreases-follow l = length l.word.now
