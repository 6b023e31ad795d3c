use Rattle.flow.specs.Running.{IsDueBelow}
use Rattle.flow.proofs.turns.earliest.Given as goal

abbrev pub invariant-loop-place : goal.invariant-loop-place
invariant-loop-place g l = IsDueBelow g.C.Core.acts l.flows l.place l.best
