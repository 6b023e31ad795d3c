use Rattle.std.proofs.Common.{ℕ, inl, inr, ap, subst, arith}
use Rattle.std.proofs.lemmas.Result.{err_from_is_err_and}
use Rattle.gpt_table.specs.Edits.{TakesPlace, with_entry}
use Rattle.gpt_table.proofs.Editing.{added_anyway, before_next, beside_of, one_addition, sane_with}
use Rattle.gpt_table.proofs.edits.add.Goals as goal

pub returns-in_err-place-clause-only : goal.returns-in_err-place-clause-only
returns-in_err-place-clause-only c = λ fault refuses.
    let same = one_addition c.args.table.now c.args.number c.args.entry _ fault (inl c.in_err-place.ensures.refused) refuses in
    let given = err_from_is_err_and c.from_residual.result c.from_residual.ensures.1 in
    let is = given.1 in
    let from = given.2 in
    cc

pub returns-in_err-test_entry-clause-only : goal.returns-in_err-test_entry-clause-only
returns-in_err-test_entry-clause-only c = λ fault refuses.
    let same = one_addition c.args.table.now c.args.number c.args.entry _ fault (inr (c.in_ok-place.place, c.in_ok-place.ensures.takes, c.in_err-test_entry.ensures.refused)) refuses in
    let given = err_from_is_err_and c.from_residual-in_err-test_entry.result c.from_residual-in_err-test_entry.ensures.1 in
    let is = given.1 in
    let from = given.2 in
    cc

pub returns-clause-added : goal.returns-clause-added
returns-clause-added c =
    let place = c.in_ok-place.place in
    record {
      from = omega arith;
      place = subst (TakesPlace c.args.table.now c.args.number) (before_next place) c.in_ok-place.ensures.takes;
      is = ap (λ (i : ℕ). with_entry c.args.table.now i c.args.entry) (before_next place);
    }

pub returns-clause-only : goal.returns-clause-only
returns-clause-only c = λ fault refuses.
    absurd (added_anyway c.args.table.now c.args.number c.in_ok-place.place c.args.entry fault c.in_ok-place.ensures.takes c.in_ok-test_entry.ensures.fits refuses)

pub returns-clause-sane : goal.returns-clause-sane
returns-clause-sane c =
    let t = c.args.table.now in
    let place = c.in_ok-place.place in
    sane_with t place c.args.entry c.requires.sane c.in_ok-place.ensures.takes.unused.within (λ used. beside_of t place c.args.entry c.in_ok-test_entry.ensures.fits)
