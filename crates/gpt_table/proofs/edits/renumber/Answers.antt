use Rattle.std.proofs.Common.{refl}
use Rattle.gpt_table.proofs.Editing.{at_place, sane_renumbered}
use Rattle.gpt_table.proofs.edits.renumber.Goals as goal

pub returns-clause-sane : goal.returns-clause-sane
returns-clause-sane c =
    let t = c.args.table.now in
    let place = c.in_ok-place.place in
    let old = at_place t c.args.number place c.in_ok-place.ensures.is c.in_ok-place.ensures.used in
    sane_renumbered t place old.0 _ _ c.requires.sane old.1 refl refl (λ has. let holds = c.has_guid.ensures.1 has in let fails = c.if-has_guid.false in cc)
