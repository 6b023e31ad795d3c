use Rattle.std.proofs.Common.{length}
use Rattle.sh_expand.specs.declared.fields.TheConstants.{TEXT_LIMIT}
use Rattle.sh_expand.proofs.Splitting.{Progress}
use Rattle.sh_expand.proofs.fields.split_fields.Given as goal

abbrev pub invariant-fields : goal.invariant-fields
invariant-fields l = Progress l.ifs TEXT_LIMIT l.pieces l.rest l.fields

abbrev pub decreases-fields : goal.decreases-fields
decreases-fields l = length l.rest
