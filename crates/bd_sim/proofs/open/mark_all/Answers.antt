use Rattle.std.proofs.Common.{◌+◌, List, sym, ◌∙◌, ap, take, arith}
use Rattle.std.proofs.lemmas.List.{take_all}
use Rattle.bd_sim.specs.declared.journal.Noted.{Noted}
use Rattle.bd_sim.specs.Journal.{State, after_each}
use Rattle.bd_sim.proofs.Replaying.{take-step}
use Rattle.bd_sim.proofs.open.mark_all.Goals as goal

pub loop-noted-preserved : goal.loop-noted-preserved
loop-noted-preserved c = record {
  size = c.mark.auto.marks ∙ c.loop-noted.invariant.size;
  marked = λ s k lt first.
      let size = c.loop-noted.invariant.size in
      c.mark.ensures (after_each s (take c.loop-noted.noted-index c.args.journal.now)) k (omega (arith, lt, size)) (c.loop-noted.invariant.marked s k lt first)
      ∙ ap (λ (t : State). t.unsynced c.args.area k) (sym (take-step s c.args.journal.now c.loop-noted.noted-index c.noted-item.result c.loop-noted-test.true c.noted-item.is));
}

pub returns : goal.returns
returns c = λ s k lt first.
    c.loop-noted.invariant.marked s k lt first
    ∙ ap (λ (l : List Noted). (after_each s l).unsynced c.args.area k) (take_all c.loop-noted.noted-index c.args.journal.now c.loop-noted-test.false)
