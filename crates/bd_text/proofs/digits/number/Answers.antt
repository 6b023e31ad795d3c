use Rattle.std.proofs.Common.{ap, ◌∙◌, arith}
use Rattle.std.specs.Char.{digit_value}
use Rattle.bd_text.proofs.DigitLemmas.{AllDigits-at, ReadsTo-more, ReadsTo-room}
use Rattle.bd_text.proofs.digits.number.Goals as goal

pub returns-in_err-value : goal.returns-in_err-value
returns-in_err-value c =
    rw c.from_residual.ensures (λ all. c.in_err-value.ensures.value (rw c.from.ensures (AllDigits-at c.args.base c.args.digits.now c.loop-digit.digit-index all c.loop-digit-test.true)))

pub overflow_mul-number : goal.overflow_mul-number
overflow_mul-number c =
    let room = ReadsTo-room c.args.base c.loop-digit.number c.in_ok-value.value c.args.digits.now c.loop-digit.digit-index c.requires.high c.requires.short c.loop-digit-test.true c.loop-digit.invariant (omega (arith, c.in_ok-value.ensures.value.0, c.in_ok-value.ensures.value.1)) in
    rw c.from-in-loop-digit.ensures (omega arith)

pub overflow_add-number : goal.overflow_add-number
overflow_add-number c =
    let room = ReadsTo-room c.args.base c.loop-digit.number c.in_ok-value.value c.args.digits.now c.loop-digit.digit-index c.requires.high c.requires.short c.loop-digit-test.true c.loop-digit.invariant (omega (arith, c.in_ok-value.ensures.value.0, c.in_ok-value.ensures.value.1)) in
    rw (c.from-in-loop-digit.ensures, c.from-in-loop-digit-2.ensures) (omega arith)

pub loop-digit-preserved : goal.loop-digit-preserved
loop-digit-preserved c =
    rw (c.from-in-loop-digit.ensures, c.from-in-loop-digit-2.ensures) (ReadsTo-more c.args.base c.loop-digit.number c.in_ok-value.value c.args.digits.now c.loop-digit.digit-index c.requires.high c.loop-digit-test.true c.loop-digit.invariant (c.in_ok-value.ensures.value.1 ∙ ap digit_value c.from.ensures) (omega (arith, c.in_ok-value.ensures.value.0, c.in_ok-value.ensures.value.1)))
