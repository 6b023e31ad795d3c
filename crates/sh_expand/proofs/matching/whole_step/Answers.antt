use Rattle.std.proofs.Common.{sym, ◌∙◌}
use Rattle.sh_expand.proofs.Scans.{at_end}
use Rattle.sh_expand.proofs.Sides.{none_in}
use Rattle.sh_expand.proofs.Splitting.{none_left}
use Rattle.sh_expand.proofs.matching.whole_step.Goals as goal

pub returns-in-End : goal.returns-in-End
returns-in-End c =
    at_end _ _ c.in-End.ensures.items (none_in c.args.place.items c.args.place.text.now (none_left c.args.place.text.now (sym c.is_empty.ensures ∙ c.if-is_empty.true)))
