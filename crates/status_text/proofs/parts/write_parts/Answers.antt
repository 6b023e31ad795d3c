use Rattle.std.proofs.Common.{get_or}
use Rattle.std.proofs.lemmas.List.{get_or_default}
use Rattle.bd_dev.proofs.Lines.{OnErr-always, front_of_a_line}
use Rattle.status_text.proofs.parts.write_parts.Goals as goal

pub returns-in_err-write_all-clause-front : goal.returns-in_err-write_all-clause-front
returns-in_err-write_all-clause-front g c =
    OnErr-always _ (front_of_a_line (λ part. part.now) _ _ _ c.args.parts.now c.loop-part.part-index (get_or c.args.parts.now c.loop-part.part-index _) c.loop-part-test.true (get_or_default c.args.parts.now c.loop-part.part-index _ _ c.loop-part-test.true) c.loop-part.invariant.written c.in_err-write_all.ensures.front)
