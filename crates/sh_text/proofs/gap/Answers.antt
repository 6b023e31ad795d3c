use Rattle.std.proofs.Common.{sym, ◌∙◌}
use Rattle.sh_text.proofs.Front.{gap_stays}
use Rattle.sh_text.proofs.gap.Goals as goal

pub returns-in-None-past_join-clause-same : goal.returns-in-None-past_join-clause-same
returns-in-None-past_join-clause-same c = sym (gap_stays c.args.over c.in-Some.pair.0 c.in-Some.pair.1.now c.bytes.rest.now c.in-Some.ensures (sym c.is_skipped.ensures ∙ c.if-is_skipped.false) c.if-c-eq35.false c.in-None-past_join.ensures) ∙ c.bytes.invariant.same
