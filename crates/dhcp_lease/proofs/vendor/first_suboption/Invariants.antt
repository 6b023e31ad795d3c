use Rattle.std.proofs.Common.{length}
use Rattle.std.specs.Option.{option_copied}
use Rattle.dhcp_lease.specs.Vendor.{suboptions_at, suboptions_in}
use Rattle.dhcp_lease.proofs.Blocks.{Along}
use Rattle.dhcp_lease.proofs.vendor.first_suboption.Given as goal

abbrev pub invariant-each : goal.invariant-each
invariant-each l = Along l.code (suboptions_in l.inner) (suboptions_at (length l.cursor.left) l.cursor.left) (option_copied l.found)

abbrev pub decreases-each : goal.decreases-each
decreases-each l = length l.cursor.left
