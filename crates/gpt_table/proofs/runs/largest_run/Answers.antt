use Rattle.std.proofs.Common.{◌≡◌, ℕ, ◌<◌, ◌≤◌, length, Option, Some, IfSome, inl, inr, sym, subst, arith}
use Rattle.std.proofs.lemmas.Bool.{cases_lt}
use Rattle.std.proofs.lemmas.Option.{slice_get_within}
use Rattle.storage_model.specs.Entries.{HasEntry}
use Rattle.gpt_table.specs.Runs.{IsFreeRun}
use Rattle.gpt_table.proofs.Running.{Looked, covered_by, covered_then, found_of, none_of, only_of, run_of}
use Rattle.gpt_table.proofs.runs.largest_run.Goals as goal

pub loop-place-init : goal.loop-place-init
loop-place-init c =
    let t = c.args.table.now in
    let first = t.first_usable in
    record {
      run = run_of t first c.free_run-largest.result c.free_run-largest.ensures.found;
      at_first = λ last run.
          let low : first ≤ first = omega arith in
          covered_by first last c.free_run-largest.result (c.free_run-largest.ensures.only first last (record { run = run; from = low; until = run.ordered }));
      behind = λ j e f last lt. absurd (omega arith);
    }

pub loop-place-preserved : goal.loop-place-preserved
loop-place-preserved c =
    let t = c.args.table.now in
    let old = c.loop-place.largest in
    let new = c.larger-largest.result in
    let before = c.loop-place.invariant in
    let larger = c.larger-largest.ensures in
    record {
      run = elim larger.either [
        | inl same ↦ subst (λ (o : Option (ℕ × ℕ)). IfSome o (λ r. IsFreeRun t r.0 r.1)) (sym same) before.run
        | inr same ↦ subst (λ (o : Option (ℕ × ℕ)). IfSome o (λ r. IsFreeRun t r.0 r.1)) (sym same) c.run_behind.ensures.run
      ];
      at_first = λ last run. covered_then (Some (t.first_usable, last)) old new (before.at_first last run) larger.first;
      behind = λ j e f last lt has run is. elim (cases_lt j c.loop-place.place) [
        | inl lower ↦ covered_then (Some (f, last)) old new (before.behind j e f last lower has run is) larger.first
        | inr ge ↦
            let same : j ≡ c.loop-place.place = omega arith in
            covered_then (Some (f, last)) c.run_behind.result new
            (covered_by f last c.run_behind.result (c.run_behind.ensures.only e f last (subst (λ (k : ℕ). HasEntry t k e) same has) run is)) larger.second
      ];
    }

looked : (c : goal.After-loop-place) → Looked c.args.table.now c.loop-place.largest
looked c =
    let all = c.count-place-end.ensures in
    record {
      at_first = c.loop-place.invariant.at_first;
      behind = λ j e f l has.
          let within : j < length c.args.table.now.entries = slice_get_within c.args.table.now.entries j e has.is in
          c.loop-place.invariant.behind j e f l (omega arith) has;
    }

pub returns-clause-found : goal.returns-clause-found
returns-clause-found c = found_of c.args.table.now c.loop-place.largest c.loop-place.invariant.run (looked c)

pub returns-clause-only : goal.returns-clause-only
returns-clause-only c = only_of c.args.table.now c.loop-place.largest c.loop-place.invariant.run (looked c)

pub returns-clause-none : goal.returns-clause-none
returns-clause-none c = λ is. none_of c.args.table.now (subst (Looked c.args.table.now) is (looked c))
