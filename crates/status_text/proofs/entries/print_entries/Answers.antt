use Rattle.std.proofs.Common.{get_or, ◌∙◌}
use Rattle.std.proofs.lemmas.List.{get_or_default}
use Rattle.bd_dev.proofs.Lines.{OnErr-always}
use Rattle.status_text.proofs.Texts.{front_of_an_entry, one_more_entry}
use Rattle.status_text.proofs.entries.print_entries.Goals as goal

pub returns-in_err-print_used-clause-front : goal.returns-in_err-print_used-clause-front
returns-in_err-print_used-clause-front g c =
    OnErr-always _ (front_of_an_entry 1 _ _ _ c.args.entries.now c.loop-place.place (get_or c.args.entries.now c.loop-place.place _) c.loop-place-test.true (get_or_default c.args.entries.now c.loop-place.place _ _ c.loop-place-test.true) c.loop-place.invariant.written c.in_err-print_used.ensures.front)

pub loop-place-preserved : goal.loop-place-preserved
loop-place-preserved g c = record {
  written = one_more_entry 1 _ _ _ c.args.entries.now c.loop-place.place (get_or c.args.entries.now c.loop-place.place _) c.loop-place-test.true (get_or_default c.args.entries.now c.loop-place.place _ _ c.loop-place-test.true) c.loop-place.invariant.written c.in_ok-print_used.ensures.written;
  quiet = c.in_ok-print_used.ensures.cause.quiet ∙ c.loop-place.invariant.quiet;
}
