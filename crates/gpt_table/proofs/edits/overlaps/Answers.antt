use Rattle.std.proofs.Common.{◌<◌, length, arith}
use Rattle.std.proofs.lemmas.Option.{slice_get_within}
use Rattle.gpt_table.proofs.edits.overlaps.Goals as goal

pub returns : goal.returns
returns c = (
  λ f. cc,
  λ overlap.
      let within : overlap.0 < length c.args.table.now.entries = slice_get_within c.args.table.now.entries overlap.0 overlap.1 overlap.2.is in
      let all = c.count-place-end.ensures in
      absurd (overlap.3 (c.loop-place.invariant overlap.0 overlap.1 (omega arith) overlap.2)),
)
