use Rattle.std.proofs.Common.{ap, codes}
use Rattle.std.specs.Fmt.{decimal}
use Rattle.std.proofs.lemmas.Result.{on_ok_weaker}
use Rattle.trace_text.specs.TraceText.{hex_text}
use Rattle.trace_text.proofs.Growing.{parts_then, renamed}
use Rattle.trace_text.proofs.trace.push_line.Goals as goal

pub returns : goal.returns
returns c =
    let s = c.args.sent.now in
    on_ok_weaker c.push_slice-6.result
    (λ last.
    parts_then c.args.text.now (decimal s.round) _ (renamed _ (ap decimal c.from.ensures) c.in_ok-push_number.ensures)
    (parts_then c.push_number.new.text (codes " ") _ c.in_ok-push_slice.ensures.pushed
    (parts_then c.push_slice.new.self (decimal s.at) _ c.in_ok-push_number-2.ensures
    (parts_then c.push_number-2.new.text (codes " ") _ c.in_ok-push_slice-2.ensures.pushed
    (parts_then c.push_slice-2.new.self s.label _ (renamed _ c.as_slice.ensures c.in_ok-push_slice-3.ensures.pushed)
    (parts_then c.push_slice-3.new.self (codes " -> ") _ c.in_ok-push_slice-4.ensures.pushed
    (parts_then c.push_slice-4.new.self (decimal s.port) _ (renamed _ (ap decimal c.from-2.ensures) c.in_ok-push_number-3.ensures)
    (parts_then c.push_number-3.new.text (codes " ") _ c.in_ok-push_slice-5.ensures.pushed
    (parts_then c.push_slice-5.new.self (hex_text s.bytes) _ (renamed _ (ap hex_text c.as_slice-2.ensures) c.in_ok-push_hex.ensures) last)))))))))
    c.push_slice-6.ensures.pushed
