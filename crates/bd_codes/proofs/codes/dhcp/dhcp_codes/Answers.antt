use Rattle.std.proofs.Common.{refl}
use Rattle.bd_codes.specs.DhcpTable.{dhcp_rows}
use Rattle.bd_codes.proofs.Rising.{Rises-from_test}
use Rattle.bd_codes.proofs.codes.dhcp.dhcp_codes.Goals as goal

pub invariant_of-result : goal.invariant_of-result
unfolding dhcp_rows
invariant_of-result c = Rises-from_test dhcp_rows refl

pub returns : goal.returns
unfolding dhcp_rows
returns c = refl
