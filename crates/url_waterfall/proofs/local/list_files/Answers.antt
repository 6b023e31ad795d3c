use Rattle.std.proofs.Common.{arith, ◌∙◌}
use Rattle.std.proofs.lemmas.List.{take_all}
use Rattle.url_waterfall.specs.Candidates.{files_named}
use Rattle.url_waterfall.proofs.Firsts.{fold-with_new_nil}
use Rattle.url_waterfall.proofs.local.list_files.Goals as goal

pub returns : goal.returns
returns c =
    let whole = take_all c.loop-volume.volume-index c.args.volumes.now (omega arith) in
    rw whole at c.loop-volume.invariant.pushed ∙ fold-with_new_nil (files_named c.args.names.now c.args.volumes.now)
