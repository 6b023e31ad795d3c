use Rattle.std.proofs.Common.{refl}
use Rattle.gpt_table.proofs.Editing.{at_place, sane_kept}
use Rattle.gpt_table.proofs.edits.retype.Goals as goal

pub returns-clause-sane : goal.returns-clause-sane
returns-clause-sane c =
    let t = c.args.table.now in
    let place = c.in_ok-place.place in
    let old = at_place t c.args.number place c.in_ok-place.ensures.is c.in_ok-place.ensures.used in
    sane_kept t place old.0 _ _ c.requires.sane old.1 refl refl refl
