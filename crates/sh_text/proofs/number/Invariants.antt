use Rattle.std.proofs.Common.{◌≡◌, ◌≤◌, min, length}
use Rattle.sh_text.specs.declared.Class.TheVariants.{Digits}
use Rattle.sh_text.specs.Front.{run, decimal, number}
use Rattle.sh_text.proofs.number.Given as goal

abbrev pub invariant-run : goal.invariant-run
invariant-run l = record {
  value : min (decimal l.number (run Digits l.rest)) 4294967295 ≡ number l.text;
  fits : l.number ≤ 4294967295;
}

abbrev pub decreases-run : goal.decreases-run
decreases-run l = length l.rest
