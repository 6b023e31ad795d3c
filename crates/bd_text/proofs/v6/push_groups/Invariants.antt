use Rattle.std.proofs.Common.{◌≡◌, ◌+◌, ◌*◌, ◌≤◌, ◌++◌, length, take}
use Rattle.bd_text.specs.V6.{groups_text}
use Rattle.bd_text.proofs.v6.push_groups.Given as goal

abbrev pub invariant-loop-place : goal.invariant-loop-place
invariant-loop-place l = record {
  bytes : l.text.bytes ≡ l.fn.text.bytes ++ groups_text (take l.place l.groups);
  short : length l.text.bytes ≤ length l.fn.text.bytes + 5 * l.place;
}
