use Rattle.std.proofs.Common.{ℕ, arith}
use borrow.Author.Count.{below_more}
use Rattle.gpt_table.specs.Edits.{IsUnused}
use Rattle.gpt_table.proofs.edits.least_unused.Goals as goal

pub returns-then-not-is_used_at-clause-unused : goal.returns-then-not-is_used_at-clause-unused
returns-then-not-is_used_at-clause-unused c = record {
  within = omega (arith, c.count-place-end.ensures.all, c.count-place-end.ensures.is);
  free = λ used. let holds = c.is_used_at.ensures.1 used in let fails = c.if-not-is_used_at.true in cc;
}

pub loop-place-preserved : goal.loop-place-preserved
loop-place-preserved c =
    let t = c.args.table.now in
    below_more (λ (j : ℕ). ¬ IsUnused t j) c.loop-place.place c.loop-place.invariant (λ unused. unused.free (c.is_used_at.ensures.0 c.if-not-is_used_at.false))

pub returns-clause-none : goal.returns-clause-none
returns-clause-none c = λ none i unused.
    let within = unused.within in
    let all = c.count-place-end.ensures in
    c.loop-place.invariant i (omega arith) unused
