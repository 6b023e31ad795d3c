use Rattle.std.proofs.Common.{◌≡◌, map, take}
use Rattle.tlv_text.specs.Printed.{shown}
use Rattle.tlv_text.proofs.print.plain.Given as goal

abbrev pub invariant-loop-byte : goal.invariant-loop-byte
invariant-loop-byte l = l.text.bytes ≡ map shown (take l.byte-index l.value)
