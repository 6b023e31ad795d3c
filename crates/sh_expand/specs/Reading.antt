-- What the readers of patterns answer.
use Rattle.std.specs.Prelude.{◌≡◌, ℕ, Bool, List, Option, option_map}
use Rattle.std.specs.Borrow.{Bor}
use Rattle.sh_expand.specs.declared.item.Item.{Item as Found}
use Rattle.sh_expand.specs.declared.item.Item.TheVariants as found
use Rattle.sh_expand.specs.Pattern.{Pieces, Item, Star, Any, Byte, Set}

abbrev pub ReadsMember : Option (ℕ × Bor (List (ℕ × Bool))) → Option (ℕ × Pieces) → Type 0
ReadsMember read member = option_map (λ p. (p.0, p.1.now)) read ≡ member

-- an item that was found is this one
abbrev pub item_of : Found → Item
item_of found.Star = Star
item_of found.Any = Any
item_of (found.Byte b) = Byte b
item_of (found.Set negated content) = Set negated content.now

-- an item, and a number of pieces
abbrev pub Reads : Found × ℕ → Item × ℕ → Type 0
Reads read item = (item_of read.0, read.1) ≡ item
