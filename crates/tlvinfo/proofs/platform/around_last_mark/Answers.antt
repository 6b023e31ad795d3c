use Rattle.std.proofs.Common.{arith}
use Rattle.tlvinfo.proofs.PlatformLemmas.{OccursAt-fits, mark_found}
use Rattle.tlvinfo.proofs.platform.around_last_mark.Goals as goal

pub returns-in_err-mark-clause-none : goal.returns-in_err-mark-clause-none
returns-in_err-mark-clause-none c = rw c.from_residual.ensures (λ k here. c.in_err-mark.ensures k (omega arith) (omega (arith, OccursAt-fits c.args.text.now k here)) here)

pub returns-clause-found : goal.returns-clause-found
returns-clause-found c =
    let found = mark_found c.args.text.now c.in_ok-mark.mark c.in_ok-mark.ensures.1 c.in_ok-mark.ensures.0.after in
    rw (c.split_at.ensures.front, c.split_at-2.ensures.back, c.split_at.ensures.back) found
