use Rattle.std.proofs.Common.{◌+◌, List, sym, ◌∙◌, ap, take}
use Rattle.std.proofs.lemmas.List.{take_all}
use Rattle.bd_sim.specs.declared.journal.Noted.{Noted}
use Rattle.bd_sim.specs.Journal.{State, after_each}
use Rattle.bd_sim.proofs.Replaying.{take-step}
use Rattle.bd_sim.proofs.journal.replay.Goals as goal

pub loop-noted-preserved : goal.loop-noted-preserved
loop-noted-preserved c = λ s first k lt.
    c.apply.ensures (after_each s (take c.loop-noted.noted-index c.args.journal.now)) (c.loop-noted.invariant s first) k lt
    ∙ ap (λ (t : State). t.reads c.args.area (c.args.at + k)) (sym (take-step s c.args.journal.now c.loop-noted.noted-index c.noted-item.result c.loop-noted-test.true c.noted-item.is))

pub returns : goal.returns
returns c = λ s first k lt.
    c.loop-noted.invariant s first k lt
    ∙ ap (λ (l : List Noted). (after_each s l).reads c.args.area (c.args.at + k)) (take_all c.loop-noted.noted-index c.args.journal.now c.loop-noted-test.false)
