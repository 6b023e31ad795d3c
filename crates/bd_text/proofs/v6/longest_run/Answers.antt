use Rattle.std.proofs.Common.{inl, inr, arith}
use Rattle.std.proofs.lemmas.Bool.{cases_lt}
use Rattle.bd_text.proofs.RunLemmas.{Longest, keep, replace}
use Rattle.bd_text.proofs.v6.longest_run.Goals as goal
use Rattle.bd_text.proofs.v6.longest_run.Goals.{then-count-longest, else-count-longest}

pub loop-start-preserved : goal.loop-start-preserved
loop-start-preserved c =
    let so_far : Longest c.args.groups.now c.loop-start.start c.loop-start.longest.start c.loop-start.longest.count = record { run = c.loop-start.invariant.run; longest = c.loop-start.invariant.longest; first = c.loop-start.invariant.first; early = c.loop-start.invariant.early } in
    elim c.if-count-longest.branch [
      | then-count-longest w ↦
          let now = replace _ _ _ _ c.zeros_from-count.result so_far c.zeros_from-count.ensures.zeros c.zeros_from-count.ensures.most w.if-count-longest.true in
          rw w.longest-is (record { run = now.run; longest = now.longest; first = now.first; early = now.early })
      | else-count-longest w ↦
          let now = keep _ _ _ _ c.zeros_from-count.result so_far c.zeros_from-count.ensures.zeros c.zeros_from-count.ensures.most w.if-count-longest.false in
          rw w.longest-is (record { run = now.run; longest = now.longest; first = now.first; early = now.early })
    ]

pub returns : goal.returns
returns c =
    let known = c.loop-start.invariant in
    record {
      zeros = known.run;
      longest = λ s n run. elim (cases_lt s c.loop-start.start) [
        | inl before ↦ known.longest s n before run
        | inr past ↦ let inside = run.inside in omega arith
      ];
      first = λ s run. elim (cases_lt s c.loop-start.start) [
        | inl before ↦ known.first s before run
        | inr past ↦ let early = known.early in omega arith
      ];
    }
