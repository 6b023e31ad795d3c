use Rattle.std.proofs.Common.{List, length, subst, sym, take}
use Rattle.std.proofs.lemmas.List.{take_all, take_more}
use Rattle.bd_sim.specs.Journal.{after_each, start}
use Rattle.bd_sim.specs.Image.{Picked, IsPicked}
use Rattle.bd_sim.proofs.image.put_picks.Goals as goal

pub loop-to-preserved : goal.loop-to-preserved
loop-to-preserved c = λ disk flash first begins.
    subst (λ (ps : List Picked). IsPicked ((after_each (start disk flash) c.args.old.now).reads c.args.area) ((after_each (start disk flash) c.args.new.now).reads c.args.area) ps c.args.area (length c.args.first.now) c.put_pick.new.out)
    (sym (take_more c.args.picks.now c.loop-to.to-index _ c.loop-to-test.true))
    (c.put_pick.ensures disk flash (take c.loop-to.to-index c.args.picks.now) first (c.loop-to.invariant disk flash first begins))

pub returns : goal.returns
returns c = λ disk flash first begins.
    subst (λ (ps : List Picked). IsPicked ((after_each (start disk flash) c.args.old.now).reads c.args.area) ((after_each (start disk flash) c.args.new.now).reads c.args.area) ps c.args.area (length c.args.first.now) c.loop-to.out)
    (take_all c.loop-to.to-index c.args.picks.now c.loop-to-test.false)
    (c.loop-to.invariant disk flash first begins)
