use Rattle.std.proofs.Common.{◌≡◌, fold, map, take}
use Rattle.waterfall.specs.Firsts.{with_new}
use Rattle.waterfall.specs.Places.{local_file}
use Rattle.waterfall.proofs.file_lists.push_volume.Given as goal

abbrev pub invariant-loop-name : goal.invariant-loop-name
invariant-loop-name l = l.list ≡ fold with_new l.fn.list (map (local_file l.volume) (take l.name-index l.names))
