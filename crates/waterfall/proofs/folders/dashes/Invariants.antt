use Rattle.std.proofs.Common.{◌≡◌, map, take}
use Rattle.waterfall.specs.Leases.{dashed}
use Rattle.waterfall.proofs.folders.dashes.Given as goal

abbrev pub invariant-loop-byte : goal.invariant-loop-byte
invariant-loop-byte l = l.folder ≡ map dashed (take l.byte-index l.text)
