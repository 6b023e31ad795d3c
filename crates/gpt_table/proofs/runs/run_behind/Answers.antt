use Rattle.gpt_table.proofs.Running.{at_behind}
use Rattle.gpt_table.proofs.runs.run_behind.Goals as goal

pub returns-clause-only : goal.returns-clause-only
returns-clause-only c = λ e first last has run is. c.free_run.ensures.only first last (at_behind c.args.table.now c.args.place _ e first last has run is)
