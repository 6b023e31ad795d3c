use Rattle.std.proofs.Common.{◌≡◌, ◌++◌, take}
use Rattle.std.specs.List.{flat_map}
use Rattle.dhcp_msg.specs.Fields.{option_bytes}
use Rattle.dhcp_msg.proofs.encoding.push_options.Given as goal

abbrev pub invariant-loop-option : goal.invariant-loop-option
invariant-loop-option l = l.out ≡ l.fn.out ++ flat_map option_bytes (take l.option-index l.option-items)
