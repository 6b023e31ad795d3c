use Rattle.std.proofs.Common.{◌≡◌, fold, take}
use Rattle.waterfall.specs.Firsts.{with_new}
use Rattle.waterfall.specs.Leases.{on_server}
use Rattle.waterfall.proofs.file_lists.push_server.Given as goal

abbrev pub invariant-loop-name : goal.invariant-loop-name
invariant-loop-name l = l.list ≡ fold with_new l.fn.list (on_server (take l.name-index l.names) l.server)
