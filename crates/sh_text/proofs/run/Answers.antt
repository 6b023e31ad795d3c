use Rattle.std.proofs.Common.{sym, ◌∙◌}
use Rattle.sh_text.proofs.Front.{run_stays, with_nothing}
use Rattle.sh_text.proofs.run.Goals as goal

pub returns-in-None-past_join : goal.returns-in-None-past_join
returns-in-None-past_join c = with_nothing _ _ _ (run_stays c.args.class c.in-Some.pair.0 c.in-Some.pair.1.now c.run.rest.now c.in-Some.ensures (sym c.is_in.ensures ∙ c.if-is_in.false) c.in-None-past_join.ensures) c.run.invariant
