use Rattle.std.proofs.Common.{◌≡◌, ◌+◌, List, Result, [], length, drop}
use Rattle.net_script.specs.Script.{Fault, IsKept, Reads, texts_of}
use Rattle.net_script.specs.declared.line.Numbered.{Numbered}
use Rattle.net_script.proofs.script.read_lines.Given as goal

abbrev pub invariant-loop-line : goal.invariant-loop-line
invariant-loop-line l = record {
  kept : IsKept l.reading.lines.items l.reading.ifaces.items l.reading.has_flow;
  count : l.number ≡ length l.yielded;
  forward : (a : Result (List Numbered) Fault) → Reads l.reading.lines.items (l.number + 1) (drop l.number (texts_of l.text)) a → Reads [] 1 (texts_of l.text) a;
  backward : (a : Result (List Numbered) Fault) → Reads [] 1 (texts_of l.text) a → Reads l.reading.lines.items (l.number + 1) (drop l.number (texts_of l.text)) a;
}
