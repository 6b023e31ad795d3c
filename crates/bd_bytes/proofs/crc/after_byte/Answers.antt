use Rattle.std.proofs.Common.{◌≡◌, ◌-◌, ◌∙◌, arith}
use Rattle.bd_bytes.proofs.Division.{Divides-step, remainder_with-mixed}
use Rattle.bd_bytes.proofs.crc.after_byte.Goals as goal

pub loop-init : goal.loop-init
loop-init c = λ rest. rw c.from.ensures (remainder_with-mixed c.args.register c.args.byte rest (omega arith))

pub loop-preserved : goal.loop-preserved
loop-preserved c = λ rest.
    c.loop.invariant rest ∙ Divides-step c.loop.counter c.loop.mixed c.after_bit-mixed.result rest (omega arith) c.after_bit-mixed.ensures

pub returns : goal.returns
returns c = λ rest. let none : 8 - c.loop.counter ≡ 0 = omega arith in rw none at (c.loop.invariant rest)
