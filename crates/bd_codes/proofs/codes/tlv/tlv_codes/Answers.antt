use Rattle.std.proofs.Common.{refl}
use Rattle.bd_codes.specs.TlvTable.{tlv_rows}
use Rattle.bd_codes.proofs.Rising.{Rises-from_test}
use Rattle.bd_codes.proofs.codes.tlv.tlv_codes.Goals as goal

pub invariant_of-result : goal.invariant_of-result
unfolding tlv_rows
invariant_of-result c = Rises-from_test tlv_rows refl

pub returns : goal.returns
unfolding tlv_rows
returns c = refl
