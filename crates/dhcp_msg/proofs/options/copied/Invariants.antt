use Rattle.std.proofs.Common.{◌≡◌, take}
use Rattle.dhcp_msg.proofs.options.copied.Given as goal

abbrev pub invariant-loop-entry : goal.invariant-loop-entry
invariant-loop-entry l = l.copy.items ≡ take l.entry-index l.entries
