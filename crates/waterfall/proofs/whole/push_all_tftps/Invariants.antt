use Rattle.std.proofs.Common.{◌≡◌, fold, take}
use Rattle.std.specs.List.{flat_map}
use Rattle.waterfall.specs.Firsts.{with_new}
use Rattle.waterfall.specs.Whole.{port_tftps}
use Rattle.waterfall.proofs.whole.push_all_tftps.Given as goal

abbrev pub invariant-loop-port : goal.invariant-loop-port
invariant-loop-port l = l.list ≡ fold with_new l.fn.list (flat_map (port_tftps l.names) (take l.port-index l.ports))
