use Rattle.std.proofs.Common.{◌≡◌, fold, take}
use Rattle.waterfall.specs.Firsts.{with_new}
use Rattle.waterfall.specs.Whole.{files_named}
use Rattle.waterfall.proofs.file_lists.push_volumes.Given as goal

abbrev pub invariant-loop-volume : goal.invariant-loop-volume
invariant-loop-volume l = l.list ≡ fold with_new l.fn.list (files_named l.names (take l.volume-index l.volumes))
