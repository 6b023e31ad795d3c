use Rattle.std.proofs.Common.{◌≡◌, fold, take}
use Rattle.std.specs.List.{flat_map}
use Rattle.waterfall.specs.Firsts.{with_new}
use Rattle.waterfall.specs.Leases.{in_folder}
use Rattle.waterfall.proofs.file_lists.push_folders.Given as goal

abbrev pub invariant-loop-front : goal.invariant-loop-front
invariant-loop-front l = l.list ≡ fold with_new l.fn.list (flat_map (in_folder l.names l.server) (take l.front-index l.fronts))
