use Rattle.std.proofs.Common.{ℕ, subst, sym, take}
use Rattle.std.proofs.lemmas.Result.{IfOk-weaker}
use Rattle.bd_sim.specs.Journal.{IsRead, after_each, start}
use Rattle.bd_sim.proofs.snapshot.old_content.Goals as goal

pub returns-clause-bytes : goal.returns-clause-bytes
returns-clause-bytes c = IfOk-weaker c.content.result _ _ (λ bytes reads disk flash first.
    let journal = c.args.journal.now in
    subst (λ (n : ℕ). IsRead ((after_each (start disk flash) (take n journal)).durable c.args.area) 0 bytes.items) c.noted_before.ensures
    (subst (λ (z : ℕ → ℕ). IsRead z 0 bytes.items) (sym (c.synced_until.ensures.durable disk flash)) (reads disk flash first))) c.content.ensures.bytes
