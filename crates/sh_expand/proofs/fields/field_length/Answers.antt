use Rattle.std.proofs.Common.{sym, ap, ◌∙◌, not, arith, false}
use Rattle.std.proofs.lemmas.List.Sums.{prefix_len_is}
use Rattle.sh_expand.specs.Fields.{is_delimiter}
use Rattle.sh_expand.proofs.fields.field_length.Goals as goal

pub returns-then-is_delimiter : goal.returns-then-is_delimiter
returns-then-is_delimiter c =
    sym (prefix_len_is (λ x. not (is_delimiter c.args.ifs.now x)) c.args.pieces.now c.loop-end.end (0, false) (omega arith) (λ k h. ap not (c.loop-end.invariant k h)) (λ _. ap not (sym c.is_delimiter.ensures ∙ c.if-is_delimiter.true)))

pub returns : goal.returns
returns c =
    sym (prefix_len_is (λ x. not (is_delimiter c.args.ifs.now x)) c.args.pieces.now _ (0, false) (omega arith) (λ k h. ap not (c.loop-end.invariant k (omega arith))) (λ h. absurd (omega arith)))
