use Rattle.std.proofs.Common.{◌≡◌, ◌≢◌, ℕ, ◌<◌, get_or, length, map, take}
use Rattle.status_text.specs.StatusText.{shown_unit}
use Rattle.status_text.proofs.name.shown_bytes.Given as goal

abbrev pub invariant-loop-place : goal.invariant-loop-place
invariant-loop-place l = record {
  long : length l.text ≡ 36;
  shown : take l.place l.text ≡ map shown_unit (take l.place l.name);
  none_before : (k : ℕ) → k < l.place → get_or l.name k 0 ≢ 0;
}
