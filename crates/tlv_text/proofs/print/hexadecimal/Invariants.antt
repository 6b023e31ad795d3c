use Rattle.std.proofs.Common.{◌≡◌, take}
use Rattle.hex.specs.Hex.{encode_lower}
use Rattle.tlv_text.proofs.print.hexadecimal.Given as goal

abbrev pub invariant-loop-byte : goal.invariant-loop-byte
invariant-loop-byte l = l.text.bytes ≡ encode_lower (take l.byte-index l.value)
