use Rattle.std.proofs.Common.{◌≡◌, ◌^◌, length, ap, arith}
use Rattle.std.proofs.lemmas.Int.Digits.{digits_value-lt}
use Rattle.bd_text.proofs.parts.pair.Goals as goal

pub overflow_cast-result : goal.overflow_cast-result
overflow_cast-result c =
    let known = c.in_ok-byte.ensures in
    let bound = digits_value-lt 16 c.args.part.now known.0 in
    let wide : 16 ^ length c.args.part.now ≡ 256 = ap (λ k. 16 ^ k) c.if-part-ne2.false in
    omega (arith, known.1)
