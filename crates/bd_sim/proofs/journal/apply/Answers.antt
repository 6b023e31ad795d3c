use Rattle.std.proofs.Common.{◌<◌, length, sym, ◌∙◌, arith}
use Rattle.bd_sim.proofs.Replaying.{overlay_step}
use Rattle.bd_sim.proofs.journal.apply.Goals as goal

pub returns-then-is_same : goal.returns-then-is_same
returns-then-is_same c = λ s so_far k lt.
    let here : k < length c.args.out.now = omega (arith, lt, c.overlay.auto.out) in
    c.overlay.ensures k here ∙ overlay_step s c.args.area c.in-Write.to c.in-Write.lba c.args.at k c.in-Write.bytes c.as_slice.result.now c.args.out.now c.args.noted.now.step c.as_slice.ensures c.in-Write.is (sym c.is_same.ensures ∙ c.if-is_same.true) (so_far k here)
