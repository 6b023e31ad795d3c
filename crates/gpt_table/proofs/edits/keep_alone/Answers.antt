use Rattle.std.proofs.Common.{refl, sym}
use Rattle.std.proofs.lemmas.Option.{get_or_from_slice_get}
use Rattle.gpt_table.proofs.Editing.{at_place, sane_alone}
use Rattle.gpt_table.proofs.edits.keep_alone.Goals as goal

pub returns-clause-sane : goal.returns-clause-sane
returns-clause-sane c =
    let t = c.args.table.now in
    let place = c.in_ok-place.place in
    let old = at_place t c.args.number place c.in_ok-place.ensures.is c.in_ok-place.ensures.used in
    sane_alone t place old.0 _ c.requires.sane c.in_ok-place.ensures.room old.1 (get_or_from_slice_get t.entries place old.0 _ old.1.is)
