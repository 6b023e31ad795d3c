use Rattle.std.proofs.Common.{◌≡◌, fold, take}
use Rattle.std.specs.List.{flat_map}
use Rattle.waterfall.specs.Firsts.{with_new}
use Rattle.waterfall.specs.Whole.{port_urls}
use Rattle.waterfall.proofs.whole.push_all_urls.Given as goal

abbrev pub invariant-loop-port : goal.invariant-loop-port
invariant-loop-port l = l.list ≡ fold with_new l.fn.list (flat_map (port_urls l.mode) (take l.port-index l.ports))
