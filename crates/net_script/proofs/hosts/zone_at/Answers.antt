use Rattle.std.proofs.Common.{get_or, sym, arith}
use Rattle.std.proofs.lemmas.List.Sums.{position_or_len_is}
use Rattle.std.proofs.lemmas.Bool.Decides.{Decides-eqb}
use Rattle.net_script.specs.Hosts.{is_percent}
use Rattle.net_script.proofs.hosts.zone_at.Goals as goal

pub returns-else-inner-at-ne37-clause-place : goal.returns-else-inner-at-ne37-clause-place
returns-else-inner-at-ne37-clause-place c = sym (position_or_len_is is_percent c.args.inner.now c.loop-at.at 0 c.loop-at.invariant.within c.loop-at.invariant.passed (λ inside. (Decides-eqb (get_or c.args.inner.now c.loop-at.at 0) 0x25).1 (let is = c.if-inner-at-ne37.false in omega (arith, is))))

pub returns-after-loop-at-clause-place : goal.returns-after-loop-at-clause-place
returns-after-loop-at-clause-place c = sym (position_or_len_is is_percent c.args.inner.now c.loop-at.at 0 c.loop-at.invariant.within c.loop-at.invariant.passed (λ inside. absurd (let out = c.loop-at-test.false in omega (arith, inside, out))))
