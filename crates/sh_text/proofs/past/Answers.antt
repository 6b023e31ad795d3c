use Rattle.std.proofs.Common.{sym, ◌∙◌}
use Rattle.sh_text.proofs.Front.{past_stays}
use Rattle.sh_text.proofs.past.Goals as goal

pub returns-in-None-past_join-clause-same : goal.returns-in-None-past_join-clause-same
returns-in-None-past_join-clause-same c = sym (past_stays c.args.class c.in-Some.pair.0 c.in-Some.pair.1.now c.run.rest.now c.in-Some.ensures (sym c.is_in.ensures ∙ c.if-is_in.false) c.in-None-past_join.ensures) ∙ c.run.invariant.same
