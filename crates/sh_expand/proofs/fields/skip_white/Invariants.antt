use Rattle.std.proofs.Common.{◌≡◌, length}
use Rattle.sh_expand.specs.Fields.{skip_white}
use Rattle.sh_expand.proofs.fields.skip_white.Given as goal

abbrev pub invariant-white : goal.invariant-white
invariant-white l = skip_white l.ifs l.rest ≡ skip_white l.ifs l.pieces

abbrev pub decreases-white : goal.decreases-white
decreases-white l = length l.rest
