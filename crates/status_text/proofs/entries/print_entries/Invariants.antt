use Rattle.std.proofs.Common.{◌≡◌, take}
use Rattle.bd_dev.specs.Sink.{Appends}
use Rattle.status_text.specs.StatusText.{entry_lines}
use Rattle.status_text.proofs.entries.print_entries.Given as goal

abbrev pub invariant-loop-place : goal.invariant-loop-place
invariant-loop-place g l = record {
  written : Appends (g.C.Sink.taken l.fn.console) (g.C.Sink.taken l.console) (entry_lines 1 (take l.place l.entries));
  quiet : g.C.Sink.faults l.console ≡ g.C.Sink.faults l.fn.console;
}
