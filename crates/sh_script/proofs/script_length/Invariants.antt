use Rattle.std.proofs.Common.{length}
use Rattle.sh_script.proofs.Walk.{Passed}
use Rattle.sh_script.proofs.script_length.Given as goal

abbrev pub invariant-bytes : goal.invariant-bytes
invariant-bytes l = Passed l.installer l.starts l.rest

abbrev pub decreases-bytes : goal.decreases-bytes
decreases-bytes l = length l.rest
