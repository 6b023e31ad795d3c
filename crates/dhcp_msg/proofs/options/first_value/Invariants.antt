use Rattle.std.proofs.Common.{◌≡◌, drop}
use Rattle.dhcp_msg.specs.Options.{value_of}
use Rattle.dhcp_msg.proofs.options.first_value.Given as goal

abbrev pub invariant-loop-entry : goal.invariant-loop-entry
invariant-loop-entry l = value_of l.code l.entries ≡ value_of l.code (drop l.entry-index l.entries)
