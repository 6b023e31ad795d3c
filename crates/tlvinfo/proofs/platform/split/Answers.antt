use Rattle.tlvinfo.proofs.PlatformLemmas.{split-is, split-mark}
use Rattle.tlvinfo.proofs.platform.split.Goals as goal

pub returns-in_err-machine-clause-only : goal.returns-in_err-machine-clause-only
returns-in_err-machine-clause-only c = λ p split. absurd (split-mark _ _ _ p c.in_ok-arch.ensures.found split c.in_err-machine.ensures.none)

pub returns-clause-only : goal.returns-clause-only
returns-clause-only c = λ p split. split-is _ _ _ _ _ p c.in_ok-arch.ensures.found c.in_ok-machine.ensures.found split
