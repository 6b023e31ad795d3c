use Rattle.std.proofs.Common.{◌≡◌, take}
use Rattle.std.specs.List.{flat_map}
use Rattle.bd_dev.specs.Sink.{Appends}
use Rattle.status_text.proofs.parts.write_parts.Given as goal

abbrev pub invariant-loop-part : goal.invariant-loop-part
invariant-loop-part g l = record {
  written : Appends (g.C.Sink.taken l.fn.console) (g.C.Sink.taken l.console) (flat_map (λ part. part.now) (take l.part-index l.parts));
  quiet : g.C.Sink.faults l.console ≡ g.C.Sink.faults l.fn.console;
}
