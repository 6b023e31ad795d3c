use Rattle.std.proofs.Common.{ℕ, ◌+◌, ◌<◌}
use Rattle.bd_text.specs.Gap.{IsGap}
use Rattle.bd_text.proofs.v6.first_gap.Given as goal

abbrev pub invariant-loop-place : goal.invariant-loop-place
invariant-loop-place l = (k : ℕ) → k + 1 < l.place → IsGap l.text k → ⊥
