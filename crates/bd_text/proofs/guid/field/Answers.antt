use Rattle.std.proofs.Common.{ap, ◌^◌, arith}
use Rattle.std.proofs.lemmas.Int.Digits.{digits_value-lt}
use Rattle.bd_text.proofs.guid.field.Goals as goal

pub returns-clause-bound : goal.returns-clause-bound
returns-clause-bound c =
    let known = c.in_ok-number.ensures in
    let bound = digits_value-lt 16 c.args.text.now known.0 in
    let wide = ap (λ k. 16 ^ k) c.if-text-count.false in
    omega (arith, known.1)
