use Rattle.std.proofs.Common.{◌<◌, ◌-◌, length, arith}
use Rattle.std.proofs.lemmas.Option.{slice_get_within}
use Rattle.gpt_table.proofs.edits.used_place.Goals as goal
use Rattle.gpt_table.proofs.edits.used_place.Goals.{then-number-eq0-via-then-number-eq0, then-number-eq0-via-else-number-eq0+then-number-count, then-number-eq0-via-else-number-eq0+else-number-count+then-not-is_used_at}

pub returns-then-number-eq0-clause-refused : goal.returns-then-number-eq0-clause-refused
returns-then-number-eq0-clause-refused c = λ is. elim c.then-number-eq0.branch [
  | then-number-eq0-via-then-number-eq0 w ↦
      let none = w.if-number-eq0.true in
      let from = is.from in
      absurd (omega arith)
  | then-number-eq0-via-else-number-eq0+then-number-count w ↦
      let above = w.if-number-count.true in
      let all = w.count.ensures in
      let within : c.args.number - 1 < length c.args.table.now.entries = slice_get_within c.args.table.now.entries (c.args.number - 1) is.used.0 is.used.1.is in
      absurd (omega arith)
  | then-number-eq0-via-else-number-eq0+else-number-count+then-not-is_used_at w ↦
      let holds = w.is_used_at.ensures.1 is.used in
      let fails = w.if-not-is_used_at.true in
      absurd cc
]
