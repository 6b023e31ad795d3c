use Rattle.std.proofs.Common.{◌≢◌, ℕ, ◌<◌, length, arith}
use Rattle.std.proofs.lemmas.Option.{slice_get_within}
use borrow.Author.Count.{below_more}
use Rattle.gpt_table.specs.Edits.{HasGuidAt}
use Rattle.gpt_table.proofs.edits.has_guid.Goals as goal

pub loop-place-preserved : goal.loop-place-preserved
loop-place-preserved c =
    let fails = c.if-has_guid_at.false in
    below_more (λ (j : ℕ). j ≢ c.args.own → ¬ HasGuidAt c.args.table.now c.args.guid j) c.loop-place.place c.loop-place.invariant
    (λ other has. let holds = c.has_guid_at.ensures.1 (other, has) in absurd cc)

pub returns : goal.returns
returns c = (
  λ f. cc,
  λ has.
      let within : has.0 < length c.args.table.now.entries = slice_get_within c.args.table.now.entries has.0 has.1.1.0 has.1.1.1.is in
      let all = c.count-place-end.ensures in
      absurd (c.loop-place.invariant has.0 (omega arith) has.1.0 has.1.1),
)
