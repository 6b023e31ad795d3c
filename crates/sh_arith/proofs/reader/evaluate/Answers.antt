use Rattle.std.proofs.Common.{◌≡◌, ◌∙◌, sym, ap, subst, FitsSigned, w64, [], to_z, of_z, ℤ, rules, ◌↔◌, Ok, Err, refl}
use Rattle.std.proofs.lemmas.Int.{to_z-of_z}
use Rattle.std.proofs.lemmas.Result.{err_from_is_err_and}
use Rattle.sh_arith.specs.Text.{skip}
use Rattle.sh_arith.proofs.Whole.{nothing_left, something_left, same_rest, value_answers, value_bad, no_value, no_value_bad, not_read}
use Rattle.sh_arith.proofs.reader.evaluate.Goals as goal

pub returns-in_err-found-clause-value : goal.returns-in_err-found-clause-value
returns-in_err-found-clause-value c =
    let p = err_from_is_err_and c.from_residual.result c.from_residual.ensures.1 in
    no_value _ _ p.0 _ p.1 (not_read _ _ c.in_err-found.ensures)

pub returns-in_err-found-clause-bad : goal.returns-in_err-found-clause-bad
returns-in_err-found-clause-bad c =
    let p = err_from_is_err_and c.from_residual.result c.from_residual.ensures.1 in
    no_value_bad _ _ p.0 _ p.1 (not_read _ _ c.in_err-found.ensures)

pub returns-then-is_empty-clause-value : goal.returns-then-is_empty-clause-value
returns-then-is_empty-clause-value c =
    let f : FitsSigned w64 c.in_ok-found.found.value = search rules in
    let blank = sym c.skip.ensures.skipped ∙ nothing_left c.skip.result.now (sym c.is_empty.ensures ∙ c.if-is_empty.true) in
    value_answers _ _ _ c.in_ok-found.ensures blank _ (ap (λ v. Ok v) (to_z-of_z w64 c.in_ok-found.found.value f))

pub returns-then-is_empty-clause-bad : goal.returns-then-is_empty-clause-bad
returns-then-is_empty-clause-bad c =
    let f : FitsSigned w64 c.in_ok-found.found.value = search rules in
    let blank = sym c.skip.ensures.skipped ∙ nothing_left c.skip.result.now (sym c.is_empty.ensures ∙ c.if-is_empty.true) in
    value_bad _ _ _ c.in_ok-found.ensures blank (Ok c.in_ok-found.found.value) refl

pub returns-else-is_empty-clause-value : goal.returns-else-is_empty-clause-value
returns-else-is_empty-clause-value c =
    no_value _ _ (record {}) _ refl (λ v i. something_left c.skip.result.now (sym c.is_empty.ensures ∙ c.if-is_empty.false) (c.skip.ensures.skipped ∙ same_rest _ _ _ c.in_ok-found.ensures v i))

pub returns-else-is_empty-clause-bad : goal.returns-else-is_empty-clause-bad
returns-else-is_empty-clause-bad c =
    no_value_bad _ _ (record {}) (Err (record {})) refl (λ v i. something_left c.skip.result.now (sym c.is_empty.ensures ∙ c.if-is_empty.false) (c.skip.ensures.skipped ∙ same_rest _ _ _ c.in_ok-found.ensures v i))
