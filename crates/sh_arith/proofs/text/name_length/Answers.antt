use Rattle.std.proofs.Common.{ℕ, sym, ◌∙◌, ap, arith}
use Rattle.std.proofs.lemmas.List.Sums.{prefix_len_is}
use Rattle.sh_arith.specs.Text.{is_name_byte}
use Rattle.sh_arith.proofs.text.name_length.Goals as goal

pub returns-then-not-is_name_byte : goal.returns-then-not-is_name_byte
returns-then-not-is_name_byte c =
    sym (prefix_len_is is_name_byte c.args.text.now c.loop-end.end 0 (omega arith) c.loop-end.invariant (λ _. sym c.is_name_byte.ensures ∙ c.if-not-is_name_byte.true))

pub returns : goal.returns
returns c =
    sym (prefix_len_is is_name_byte c.args.text.now _ 0 (omega arith) (λ k h. c.loop-end.invariant k (omega arith)) (λ h. absurd (omega arith)))
