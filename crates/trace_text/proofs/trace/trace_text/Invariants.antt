use Rattle.std.proofs.Common.{◌≡◌, take}
use Rattle.trace_text.specs.TraceText.{trace_text}
use Rattle.trace_text.proofs.trace.trace_text.Given as goal

abbrev pub invariant-loop-sent : goal.invariant-loop-sent
invariant-loop-sent l = l.text ≡ trace_text (take l.sent-index l.sends)
