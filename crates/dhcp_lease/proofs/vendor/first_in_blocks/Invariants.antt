use Rattle.std.proofs.Common.{length}
use Rattle.std.specs.Option.{option_copied}
use Rattle.dhcp_lease.specs.Vendor.{vendor_at, vendor_options}
use Rattle.dhcp_lease.proofs.Blocks.{Along}
use Rattle.dhcp_lease.proofs.vendor.first_in_blocks.Given as goal

abbrev pub invariant-each : goal.invariant-each
invariant-each l = Along l.code (vendor_options l.value) (vendor_at (length l.cursor.left) l.cursor.left) (option_copied l.found)

abbrev pub decreases-each : goal.decreases-each
decreases-each l = length l.cursor.left
