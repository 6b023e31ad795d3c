use Rattle.std.proofs.Common.{inl, inr, length}
use Rattle.bd_text.proofs.GapLemmas.{gap-at, no-gap}
use Rattle.bd_text.proofs.v6.groups.Goals as goal

pub returns-in-None-clause-only : goal.returns-in-None-clause-only
returns-in-None-clause-only c = λ gs size spelled. elim spelled [
  | inl full ↦ c.in_full.ensures.only gs size full
  | inr gap ↦ absurd (c.in-None.ensures.none (length gap.sides.head) (gap-at gs c.args.text.now gap))
]

pub returns-in-Some-clause-only : goal.returns-in-Some-clause-only
returns-in-Some-clause-only c = λ gs size spelled. elim spelled [
  | inl full ↦ absurd (no-gap gs c.args.text.now c.in-Some.place full c.in-Some.ensures.found.gap)
  | inr gap ↦ c.round_gap.ensures.only gs size gap
]
