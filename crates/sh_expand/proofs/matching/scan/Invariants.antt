use Rattle.std.proofs.Common.{length}
use Rattle.std.specs.Prelude.{option_map}
use Rattle.sh_expand.specs.Pattern.{items_of}
use Rattle.sh_expand.specs.Scan.{spot}
use Rattle.sh_expand.proofs.Scans.{Keeps, Sized, work}
use Rattle.sh_expand.proofs.matching.scan.Given as goal

abbrev pub invariant-scan : goal.invariant-scan
invariant-scan l = Keeps (items_of l.pattern) l.text (spot l.here) (option_map spot l.last) × Sized (length l.pattern) (length l.text) (spot l.here) (option_map spot l.last)

abbrev pub decreases-scan : goal.decreases-scan
decreases-scan l = work (length l.pattern) (length l.text) (spot l.here) (option_map spot l.last)
