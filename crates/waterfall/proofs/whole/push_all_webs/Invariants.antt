use Rattle.std.proofs.Common.{◌≡◌, ◌≤◌, ◌*◌, fold, length, take}
use Rattle.std.specs.List.{flat_map}
use Rattle.waterfall.specs.Firsts.{with_new}
use Rattle.waterfall.specs.Whole.{port_webs}
use Rattle.waterfall.proofs.whole.push_all_webs.Given as goal

abbrev pub invariant-loop-port : goal.invariant-loop-port
invariant-loop-port l = record {
  pushed : l.list ≡ fold with_new l.fn.list (flat_map (port_webs l.names) (take l.port-index l.ports));
  few : length (flat_map (port_webs l.names) (take l.port-index l.ports)) ≤ 216 * l.port-index;
}
