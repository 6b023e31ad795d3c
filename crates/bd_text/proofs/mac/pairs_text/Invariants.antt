use Rattle.std.proofs.Common.{◌≡◌, ◌*◌, ◌≤◌, length, take}
use Rattle.bd_text.specs.Mac.{mac_text}
use Rattle.bd_text.proofs.mac.pairs_text.Given as goal

abbrev pub invariant-loop-place : goal.invariant-loop-place
invariant-loop-place l = record {
  printed : l.text.bytes ≡ mac_text (take l.place l.bytes);
  short : length l.text.bytes ≤ 3 * l.place;
}
