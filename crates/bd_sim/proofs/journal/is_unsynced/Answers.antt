use Rattle.std.proofs.Common.{[], List, sym, ◌∙◌, ap, take}
use Rattle.std.proofs.lemmas.List.{take_all}
use Rattle.bd_sim.specs.declared.journal.Noted.{Noted}
use Rattle.bd_sim.specs.Journal.{State, after_each, start}
use Rattle.bd_sim.proofs.Replaying.{take-step}
use Rattle.bd_sim.proofs.journal.is_unsynced.Goals as goal

pub loop-noted-preserved : goal.loop-noted-preserved
loop-noted-preserved c =
    c.is_unsynced_then-unsynced.ensures (after_each (start [] []) (take c.loop-noted.noted-index c.args.journal.now)) (sym c.loop-noted.invariant)
    ∙ ap (λ (t : State). t.unsynced c.args.area c.args.lba) (sym (take-step (start [] []) c.args.journal.now c.loop-noted.noted-index c.noted-item.result c.loop-noted-test.true c.noted-item.is))

pub returns : goal.returns
returns c =
    c.loop-noted.invariant
    ∙ ap (λ (l : List Noted). (after_each (start [] []) l).unsynced c.args.area c.args.lba) (take_all c.loop-noted.noted-index c.args.journal.now c.loop-noted-test.false)
