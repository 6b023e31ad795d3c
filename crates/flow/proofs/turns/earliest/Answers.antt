use Rattle.std.proofs.Common.{refl, length, sym}
use Rattle.std.proofs.lemmas.Option.{slice_get_read}
use Rattle.flow.proofs.Due.{due_more}
use Rattle.flow.proofs.turns.earliest.Goals as goal

pub loop-place-preserved : goal.loop-place-preserved
loop-place-preserved g c =
    let here = slice_get_read c.args.flows.now (length c.args.flows.now) c.loop-place.place c.index-flows-place.result refl c.loop-place-test.true c.index-flows-place.is in
    rw c.sooner-best.ensures
    (due_more g.C.Core.acts c.args.flows.now c.loop-place.place c.loop-place.best c.index-flows-place.result c.deadline.result here (sym c.deadline.ensures) c.loop-place.invariant)
