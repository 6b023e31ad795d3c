use Rattle.soundness.specs.Onie.{NoneWithin}
use Rattle.soundness.proofs.onie.next_onie.Given as goal

abbrev pub invariant-loop-place : goal.invariant-loop-place
invariant-loop-place l = NoneWithin l.entries l.from l.place
