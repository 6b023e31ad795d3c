use Rattle.std.proofs.Common.{◌<◌, length, arith}
use Rattle.std.proofs.lemmas.Option.{slice_get_within}
use Rattle.gpt_table.proofs.Running.{below_raised, clear_raised, free_raised}
use Rattle.gpt_table.proofs.runs.first_free.Goals as goal

pub loop-place-preserved : goal.loop-place-preserved
loop-place-preserved c =
    let t = c.args.table.now in
    let place = c.loop-place.place in
    let new = c.raised-first.ensures in
    let old = c.loop-place.invariant in
    let all = c.count-place-end.ensures in
    let within : place < length t.entries = omega arith in
    record {
      until = new.until;
      from = omega (arith, new.from, old.from);
      below = below_raised t place _ c.loop-place.first c.raised-first.result within new.edge old.below;
      clear = clear_raised t place _ c.args.at c.loop-place.first c.raised-first.result new.from new.clear old.clear;
    }

pub returns-clause-free : goal.returns-clause-free
returns-clause-free c =
    let t = c.args.table.now in
    let old = c.loop-place.invariant in
    let all = c.count-place-end.ensures in
    free_raised t c.args.at c.loop-place.first c.requires old.from (λ j e has.
    let within : j < length t.entries = slice_get_within t.entries j e has.is in
    old.clear j e (omega arith) has)
