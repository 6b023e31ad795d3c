use Rattle.std.proofs.Common.{refl}
use Rattle.std.proofs.lemmas.Option.{slice_get_within}
use Rattle.gpt_table.proofs.Editing.{at_place, sane_with}
use Rattle.gpt_table.proofs.edits.delete.Goals as goal

pub returns-clause-sane : goal.returns-clause-sane
returns-clause-sane c =
    let t = c.args.table.now in
    let place = c.in_ok-place.place in
    let old = at_place t c.args.number place c.in_ok-place.ensures.is c.in_ok-place.ensures.used in
    sane_with t place _ c.requires.sane (slice_get_within t.entries place old.0 old.1.is) (λ used. absurd (used refl))
