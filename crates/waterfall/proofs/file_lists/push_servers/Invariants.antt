use Rattle.std.proofs.Common.{◌≡◌, fold, take}
use Rattle.std.specs.List.{flat_map}
use Rattle.waterfall.specs.Firsts.{with_new}
use Rattle.waterfall.specs.Leases.{on_server}
use Rattle.waterfall.proofs.file_lists.push_servers.Given as goal

abbrev pub invariant-loop-server : goal.invariant-loop-server
invariant-loop-server l = l.list ≡ fold with_new l.fn.list (flat_map (on_server l.names) (take l.server-index l.servers))
