use Rattle.std.proofs.Common.{◌≡◌, take}
use Rattle.bd_dev.specs.Volumes.{volume_names}
use Rattle.bd_dev.proofs.mem_volumes.names_of.Given as goal

abbrev pub invariant-loop-volume : goal.invariant-loop-volume
invariant-loop-volume l = l.names ≡ volume_names (take l.volume-index l.volumes)
