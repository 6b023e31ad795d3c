use Rattle.std.proofs.Common.{◌≡◌, ◌≤◌, length, take}
use Rattle.dhcp_lease.specs.Texts.{trimmed}
use Rattle.dhcp_lease.proofs.texts.trimmed.Given as goal

abbrev pub invariant-end : goal.invariant-end
invariant-end l = (l.end ≤ length l.value) × (trimmed (take l.end l.value) ≡ trimmed l.value)

abbrev pub decreases-end : goal.decreases-end
decreases-end l = l.end
