use Rattle.std.proofs.Common.{◌≡◌, [], List, ℕ, length, take}
use Rattle.bd_sim.specs.Journal.{after_each, of_area, start}
use Rattle.bd_sim.specs.Image.{IsPicked}
use Rattle.bd_sim.proofs.image.put_picks.Given as goal

abbrev pub invariant-loop-to : goal.invariant-loop-to
invariant-loop-to l = (disk flash : List ℕ) → l.first ≡ of_area disk flash l.area
    → IsPicked ((after_each (start disk flash) l.old).reads l.area) ((after_each (start disk flash) l.new).reads l.area) [] l.area (length l.first) l.initial.out
    → IsPicked ((after_each (start disk flash) l.old).reads l.area) ((after_each (start disk flash) l.new).reads l.area) (take l.to-index l.picks) l.area (length l.first) l.out
