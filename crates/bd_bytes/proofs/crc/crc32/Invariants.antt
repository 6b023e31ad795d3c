use Rattle.std.proofs.Common.{◌≡◌, ◌<◌, ◌^◌, drop}
use Rattle.bd_bytes.specs.Crc.{message}
use Rattle.bd_bytes.specs.Register.{remainder_with}
use Rattle.bd_bytes.proofs.crc.crc32.Given as goal

abbrev pub invariant-loop-byte : goal.invariant-loop-byte
invariant-loop-byte l =
    (l.register < 2 ^ 32)
    × (remainder_with 0xffff_ffff (message l.bytes) ≡ remainder_with l.register (message (drop l.byte-index l.bytes)))
