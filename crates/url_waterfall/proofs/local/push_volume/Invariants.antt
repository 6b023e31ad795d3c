use Rattle.std.proofs.Common.{◌≡◌, map, take, fold}
use Rattle.url_waterfall.specs.Candidates.{local_file}
use Rattle.url_waterfall.specs.Firsts.{IsIndex, with_new}
use Rattle.url_waterfall.proofs.local.push_volume.Given as goal

abbrev pub invariant-loop-name : goal.invariant-loop-name
invariant-loop-name l = record {
  pushed : l.list.items.items ≡ fold with_new l.fn.list.items.items (map (local_file l.volume) (take l.name-index l.names));
  index : IsIndex l.list.shown l.list.items.items;
}
