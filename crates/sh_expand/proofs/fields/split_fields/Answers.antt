use Rattle.std.proofs.Common.{sym, ◌∙◌, not, arith}
use Rattle.std.proofs.lemmas.Result.{err_from_is_err_and}
use Rattle.std.proofs.lemmas.List.Sums.{prefix_len-le-length}
use Rattle.sh_expand.specs.Fields.{is_delimiter}
use Rattle.sh_expand.proofs.Splitting.{none_left, some_left, all_split, none_longer, too_long, one_more, smaller}
use Rattle.sh_expand.proofs.fields.split_fields.Goals as goal

pub returns-then-is_empty-clause-fields : goal.returns-then-is_empty-clause-fields
returns-then-is_empty-clause-fields c =
    all_split _ _ _ _ _ c.fields.invariant (sym c.skip_white-here.ensures ∙ none_left c.skip_white-here.result.now (sym c.is_empty.ensures ∙ c.if-is_empty.true))

pub returns-then-is_empty-clause-only : goal.returns-then-is_empty-clause-only
returns-then-is_empty-clause-only c =
    λ h. absurd (none_longer _ _ _ _ _ c.fields.invariant (sym c.skip_white-here.ensures ∙ none_left c.skip_white-here.result.now (sym c.is_empty.ensures ∙ c.if-is_empty.true)) h)

pub split_at-requires : goal.split_at-requires
split_at-requires c = omega (arith, c.field_length.ensures, prefix_len-le-length (λ x. not (is_delimiter c.args.ifs.now x)) c.skip_white-here.result.now)

pub returns-in_err-bytes_of-clause-long : goal.returns-in_err-bytes_of-clause-long
returns-in_err-bytes_of-clause-long c = λ h.
    let p = err_from_is_err_and c.from_residual.result c.from_residual.ensures.1 in
    too_long _ _ _ _ _ _ c.skip_white-here.ensures c.field_length.ensures c.split_at.ensures.front c.split_at.ensures.back _ _ _ c.fields.invariant (some_left _ (sym c.is_empty.ensures ∙ c.if-is_empty.false)) _ c.in_err-bytes_of.ensures (cc)

pub fields-preserved : goal.fields-preserved
fields-preserved c =
    one_more _ _ _ _ _ _ c.skip_white-here.ensures c.field_length.ensures c.split_at.ensures.front c.split_at.ensures.back _ _ _ c.fields.invariant (some_left _ (sym c.is_empty.ensures ∙ c.if-is_empty.false)) _ _ _ c.in_ok-bytes_of.ensures c.past_delimiter-rest.ensures c.in_ok-push.ensures.pushed

pub fields-smaller : goal.fields-smaller
fields-smaller c =
    smaller _ _ _ _ _ _ c.skip_white-here.ensures c.field_length.ensures c.split_at.ensures.front c.split_at.ensures.back _ _ _ c.fields.invariant (some_left _ (sym c.is_empty.ensures ∙ c.if-is_empty.false)) _ c.past_delimiter-rest.ensures
