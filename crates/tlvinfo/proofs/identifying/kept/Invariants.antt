use Rattle.std.proofs.Common.{◌≡◌, take}
use Rattle.tlvinfo.proofs.identifying.kept.Given as goal

abbrev pub invariant-loop-byte : goal.invariant-loop-byte
invariant-loop-byte l = l.copy.bytes ≡ take l.byte-index l.text
