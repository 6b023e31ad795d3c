use Rattle.std.proofs.Common.{[]}
use Rattle.trace_text.specs.TraceText.{line_of, trace_text}
use Rattle.trace_text.proofs.Growing.{one_more}
use Rattle.trace_text.proofs.trace.trace_text.Goals as goal

pub loop-sent-init : goal.loop-sent-init
unfolding trace_text
loop-sent-init c = c.in_ok-text.ensures

pub loop-sent-preserved : goal.loop-sent-preserved
unfolding trace_text
loop-sent-preserved c =
    one_more line_of [] c.loop-sent.text c.push_line.new.text c.args.sends.now c.loop-sent.sent-index c.sent-item.result c.loop-sent-test.true c.sent-item.is c.loop-sent.invariant c.in_ok-push_line.ensures
