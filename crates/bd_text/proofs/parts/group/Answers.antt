use Rattle.std.proofs.Common.{◌^◌, ◌≤◌, length, arith}
use Rattle.std.proofs.Math.Nat.{pow-le-pow_right}
use Rattle.std.proofs.lemmas.Int.Digits.{digits_value-lt}
use Rattle.bd_text.proofs.parts.group.Goals as goal

pub overflow_cast-result : goal.overflow_cast-result
overflow_cast-result c =
    let known = c.in_ok-group.ensures in
    let bound = digits_value-lt 16 c.args.part.now known.0 in
    let wide : 16 ^ length c.args.part.now ≤ 16 ^ 4 = pow-le-pow_right (omega arith) c.if-part-gt4.false in
    omega (arith, known.1)
