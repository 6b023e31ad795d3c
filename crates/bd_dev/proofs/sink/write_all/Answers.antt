use Rattle.std.proofs.Common.{arith, ◌∙◌}
use Rattle.bd_dev.proofs.Appending.{Appends-more}
use Rattle.bd_dev.proofs.sink.write_all.Goals as goal

pub loop-done-preserved : goal.loop-done-preserved
loop-done-preserved g c = record {
  within = omega (arith, c.in_ok-done.ensures.taken.fits);
  taken = Appends-more _ _ _ c.args.bytes.now c.loop-done.done c.in_ok-done.field-0 c.loop-done.invariant.within c.loop-done.invariant.taken c.in_ok-done.ensures.taken.appended;
  quiet = c.in_ok-done.ensures.cause.quiet ∙ c.loop-done.invariant.quiet;
}
