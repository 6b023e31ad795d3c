use Rattle.std.proofs.Common.{refl, arith}
use Rattle.gpt_table.proofs.edits.free_place.Goals as goal
use Rattle.gpt_table.proofs.edits.free_place.Goals.{then-number-count-via-then-number-count, then-number-count-via-else-number-count+then-is_used_at}

pub returns-in-None-clause-refused : goal.returns-in-None-clause-refused
returns-in-None-clause-refused c = (c.if-number-eq0.true, c.least_unused.ensures.none c.in-None.is)

pub returns-then-number-count-clause-refused : goal.returns-then-number-count-clause-refused
returns-then-number-count-clause-refused c = (
  c.if-number-eq0.false,
  λ unused. elim c.then-number-count.branch [
    | then-number-count-via-then-number-count w ↦
        let above = w.if-number-count.true in
        let within = unused.within in
        let all = c.count.ensures in
        absurd (omega arith)
    | then-number-count-via-else-number-count+then-is_used_at w ↦ unused.free (w.is_used_at.ensures.0 w.if-is_used_at.true)
  ],
)

pub returns-clause-takes : goal.returns-clause-takes
returns-clause-takes c = record {
  unused = record {
    within = let all = c.count.ensures in let some = c.if-number-eq0.false in omega arith;
    free = λ used. let holds = c.is_used_at.ensures.1 used in let fails = c.if-is_used_at.false in cc;
  };
  asked = λ some. refl;
  least = λ none. absurd (c.if-number-eq0.false none);
}
