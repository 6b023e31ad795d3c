use Rattle.std.proofs.Common.{◌≡◌, ◌++◌, length}
use Rattle.std.specs.Prelude.{map}
use Rattle.sh_expand.specs.Pattern.{items_of}
use Rattle.sh_expand.specs.Reading.{item_of}
use Rattle.sh_expand.proofs.item.items.Given as goal

abbrev pub invariant-items : goal.invariant-items
invariant-items l = map item_of l.all.items ++ items_of l.rest ≡ items_of l.pattern

abbrev pub decreases-items : goal.decreases-items
decreases-items l = length l.rest
