use Rattle.std.proofs.Common.{◌∙◌, inl, refl, arith}
use Rattle.bd_text.proofs.v6.printed.Goals as goal

pub returns-then-run-lt-LEAST_RUN : goal.returns-then-run-lt-LEAST_RUN
returns-then-run-lt-LEAST_RUN c = inl ((λ start run. let least = c.longest_run-run.ensures.longest start 2 run in absurd (omega arith)), c.push_groups.ensures.bytes ∙ rw c.new-text.ensures refl)
