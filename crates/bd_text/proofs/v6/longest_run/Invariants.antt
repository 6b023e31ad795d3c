use Rattle.std.proofs.Common.{ℕ, ◌<◌, ◌≤◌}
use Rattle.bd_text.specs.V6.{IsZeroRun}
use Rattle.bd_text.proofs.v6.longest_run.Given as goal

abbrev pub invariant-loop-start : goal.invariant-loop-start
invariant-loop-start l = record {
  run : IsZeroRun l.groups l.longest.start l.longest.count;
  longest : (s n : ℕ) → s < l.start → IsZeroRun l.groups s n → n ≤ l.longest.count;
  first : (s : ℕ) → s < l.start → IsZeroRun l.groups s l.longest.count → l.longest.start ≤ s;
  early : l.longest.start ≤ l.start;
}
