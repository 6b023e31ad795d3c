use Rattle.std.proofs.Common.{◌≡◌, take, fold, []}
use Rattle.url_waterfall.specs.Candidates.{files_named}
use Rattle.url_waterfall.specs.Firsts.{IsIndex, with_new}
use Rattle.url_waterfall.proofs.local.list_files.Given as goal

abbrev pub invariant-loop-volume : goal.invariant-loop-volume
invariant-loop-volume l = record {
  pushed : l.list.items.items ≡ fold with_new [] (files_named l.names (take l.volume-index l.volumes));
  index : IsIndex l.list.shown l.list.items.items;
}
