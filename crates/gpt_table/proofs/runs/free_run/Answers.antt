use Rattle.std.proofs.Common.{ℕ, Some, inl, inr, ap, ◌∙◌, arith}
use Rattle.std.proofs.lemmas.Bool.{cases_lt}
use Rattle.gpt_table.proofs.Running.{one_run}
use Rattle.gpt_table.proofs.runs.free_run.Goals as goal

pub returns-then-not-is_free-clause-only : goal.returns-then-not-is_free-clause-only
returns-then-not-is_free-clause-only c = λ first last run.
    let holds = c.is_free.ensures.1 (run.run.free c.args.at run.from run.until) in
    let fails = c.if-not-is_free.true in
    absurd cc

pub returns-clause-found : goal.returns-clause-found
returns-clause-found c =
    let low = c.first_free.ensures in
    let high = c.last_free.ensures in
    record {
      run = record {
        ordered = omega (arith, low.until, high.from);
        free = λ s from until. elim (cases_lt c.args.at s) [
          | inl behind ↦ high.free s (omega arith) until
          | inr before ↦ low.free s from before
        ];
        below = low.below;
        above = high.above;
      };
      from = low.until;
      until = high.from;
    }

pub returns-clause-only : goal.returns-clause-only
returns-clause-only c = λ first last run.
    let same = one_run c.args.table.now c.args.at c.first_free.result c.last_free.result first last (returns-clause-found c) run in
    ap (λ (k : ℕ). Some (k, c.last_free.result)) same.0 ∙ ap (λ (k : ℕ). Some (first, k)) same.1
