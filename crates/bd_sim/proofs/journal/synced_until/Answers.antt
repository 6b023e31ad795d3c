use Rattle.std.proofs.Common.{◌≤◌, ℕ, sym, ◌∙◌, ap, take, arith}
use Rattle.bd_sim.specs.Journal.{after_each, start}
use Rattle.bd_sim.proofs.Replaying.{durable-sync, durable-no_sync}
use Rattle.bd_sim.proofs.journal.synced_until.Goals as goal
use Rattle.bd_sim.proofs.journal.synced_until.Goals.{then-is_sync_of, else-is_sync_of}

pub loop-index-preserved : goal.loop-index-preserved
loop-index-preserved c = elim c.if-is_sync_of.branch [
  | then-is_sync_of w ↦ record {
    past = omega (arith, w.synced-is);
    durable = λ disk flash. durable-sync (start disk flash) c.args.journal.now c.loop-index.index c.index-journal-index.result c.args.area c.loop-index-test.true c.index-journal-index.is
        c.if-is_sync_of.synced (sym c.is_sync_of.ensures ∙ w.if-is_sync_of.true) w.synced-is;
  }
  | else-is_sync_of w ↦
      let past : c.loop-index.synced ≤ c.loop-index.index = c.loop-index.invariant.past in
      record {
        past = omega (arith, w.synced-is, past);
        durable = λ disk flash.
            durable-no_sync (start disk flash) c.args.journal.now c.loop-index.index c.index-journal-index.result c.args.area c.loop-index-test.true c.index-journal-index.is (sym c.is_sync_of.ensures ∙ w.if-is_sync_of.false)
            ∙ c.loop-index.invariant.durable disk flash
            ∙ ap (λ (n : ℕ). (after_each (start disk flash) (take n c.args.journal.now)).reads c.args.area) (sym w.synced-is);
      }
]
