use Rattle.std.proofs.Common.{◌≡◌, false, None, length}
use Rattle.std.specs.Prelude.{option_map}
use Rattle.sh_expand.specs.Scan.{items_in, text_in, size_in, spot}
use Rattle.sh_expand.proofs.Fronts.{Keeps}
use Rattle.sh_expand.proofs.Scans.{Sized, work}
use Rattle.sh_expand.proofs.cut.cut.Given as goal

abbrev pub invariant-scan : goal.invariant-scan
invariant-scan l =
    Keeps (items_in l.items) (text_in l.items l.text) (spot l.here) (option_map spot l.last) l.best
    × Sized (size_in l.items) (length (text_in l.items l.text)) (spot l.here) (option_map spot l.last)
    × (l.longest ≡ false → l.best ≡ None)

abbrev pub decreases-scan : goal.decreases-scan
decreases-scan l = work (size_in l.items) (length (text_in l.items l.text)) (spot l.here) (option_map spot l.last)
