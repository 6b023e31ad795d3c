use Rattle.std.proofs.Common.{◌≡◌, ◌*◌, ◌≤◌, length, take}
use Rattle.bd_text.specs.V4.{v4_text}
use Rattle.bd_text.proofs.v4.octets_text.Given as goal

abbrev pub invariant-loop-place : goal.invariant-loop-place
invariant-loop-place l = record {
  printed : l.text.bytes ≡ v4_text (take l.place l.bytes);
  short : length l.text.bytes ≤ 4 * l.place;
}
