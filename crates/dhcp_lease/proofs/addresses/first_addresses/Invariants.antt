use Rattle.std.proofs.Common.{length}
use Rattle.dhcp_lease.proofs.Quads.{Along}
use Rattle.dhcp_lease.proofs.addresses.first_addresses.Given as goal

abbrev pub invariant-each : goal.invariant-each
invariant-each l = Along l.value l.found.items l.left

abbrev pub decreases-each : goal.decreases-each
decreases-each l = length l.left
