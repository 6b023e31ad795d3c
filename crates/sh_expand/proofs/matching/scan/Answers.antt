use Rattle.std.proofs.Common.{refl}
use Rattle.sh_expand.proofs.Scans.{keeps_star, keeps_byte, keeps_later, fails, starts, sized_start, sized_star, sized_byte, sized_later}
use Rattle.sh_expand.proofs.matching.scan.Goals as goal

pub scan-init : goal.scan-init
scan-init c = (starts _ _ _ refl refl, sized_start _)

pub returns-in-End-clause-yes : goal.returns-in-End-clause-yes
returns-in-End-clause-yes c = λ _. c.scan.invariant.0.sound c.in-End.ensures

pub scan-preserved-in-Star : goal.scan-preserved-in-Star
scan-preserved-in-Star c = (keeps_star _ _ _ _ _ c.scan.invariant.0 c.in-Star.ensures, (sized_star _ _ _ _ _ c.scan.invariant.1 c.in-Star.ensures).0)

pub scan-smaller-in-Star : goal.scan-smaller-in-Star
scan-smaller-in-Star c = (sized_star _ _ _ _ _ c.scan.invariant.1 c.in-Star.ensures).1

pub scan-preserved-in-Byte : goal.scan-preserved-in-Byte
scan-preserved-in-Byte c = (keeps_byte _ _ _ _ _ c.scan.invariant.0 c.in-Byte.ensures, (sized_byte _ _ _ _ _ c.scan.invariant.1 c.in-Byte.ensures).0)

pub scan-smaller-in-Byte : goal.scan-smaller-in-Byte
scan-smaller-in-Byte c = (sized_byte _ _ _ _ _ c.scan.invariant.1 c.in-Byte.ensures).1

pub scan-preserved : goal.scan-preserved
scan-preserved c = (keeps_later _ _ _ _ _ c.scan.invariant.0 c.in-Stuck.ensures c.in-Some.ensures, (sized_later _ _ _ _ _ c.scan.invariant.1 c.in-Some.ensures).0)

pub scan-smaller : goal.scan-smaller
scan-smaller c = (sized_later _ _ _ _ _ c.scan.invariant.1 c.in-Some.ensures).1

pub returns-in-None-clause-no : goal.returns-in-None-clause-no
returns-in-None-clause-no c = λ m. absurd (fails _ _ _ _ c.scan.invariant.0 c.in-Stuck.ensures c.in-None.ensures m)
