-- What a step of the scan of a text for a pattern answers.
use Rattle.std.specs.Prelude.{◌≡◌, ◌<◌, ℕ, Bool, true, List, [], ◌∷◌, length, map, reverse, Option, Some, None}
use Rattle.sh_expand.specs.declared.matching.Items.{Items}
use Rattle.sh_expand.specs.declared.matching.Items.TheVariants as sides
use Rattle.sh_expand.specs.declared.matching.Place.{Place}
use Rattle.sh_expand.specs.declared.matching.Step.{Step}
use Rattle.sh_expand.specs.declared.matching.Step.TheVariants as steps
use Rattle.sh_expand.specs.Cut.{Begins, IsCut, NoCut}
use Rattle.sh_expand.specs.Pattern.{Text, Item, Star, items_of, takes, Matches}
use Rattle.sh_expand.specs.Reading.{item_of}

-- items and a text as the scan meets them, and a number that shrinks with each item
pub record Spot : Type 0 where
  pub items : List Item
  pub text : Text
  pub size : ℕ

abbrev pub items_in : Items → List Item
items_in (sides.Front pattern) = items_of pattern.now
items_in (sides.Back items) = reverse (map item_of items.now)

abbrev pub text_in : Items → Text → Text
text_in (sides.Front pattern) text = text
text_in (sides.Back items) text = reverse text

abbrev pub size_in : Items → ℕ
size_in (sides.Front pattern) = length pattern.now
size_in (sides.Back items) = length items.now

abbrev pub spot : Place → Spot
spot place = record { items = items_in place.items; text = text_in place.items place.text.now; size = size_in place.items }

-- one item further on, at the same side of a text
pub record TakesItem (from to : Items) (item : Item) : Type 0 where
  pub items : items_in from ≡ item ∷ items_in to
  pub side : (text : Text) → text_in to text ≡ text_in from text
  pub shorter : size_in to < size_in from

-- one item and one byte further on
pub record Goes (from to : Spot) : Type 0 where
  pub item : Item
  pub byte : ℕ
  pub items : from.items ≡ item ∷ to.items
  pub text : from.text ≡ byte ∷ to.text
  pub takes : takes item byte ≡ true
  pub shorter : to.size < from.size

-- past a star
pub record Stars (from to : Spot) : Type 0 where
  pub items : from.items ≡ Star ∷ to.items
  pub text : from.text ≡ to.text
  pub shorter : to.size < from.size

pub record Ends (from : Spot) : Type 0 where
  pub items : from.items ≡ []

pub record Sticks (from : Spot) : Type 0 where
  pub none : Matches from.items from.text → ⊥
  pub front : (rest : Text) → Begins from.items from.text rest → ⊥

abbrev pub IsStep : Place → Step → Type 0
IsStep from steps.End = Ends (spot from)
IsStep from (steps.Star to) = Stars (spot from) (spot to)
IsStep from (steps.Byte to) = Goes (spot from) (spot to)
IsStep from steps.Stuck = Sticks (spot from)

-- the same of a pattern that is to match the whole text
abbrev pub IsWholeStep : Place → Step → Type 0
IsWholeStep from steps.End = Matches (spot from).items (spot from).text
IsWholeStep from (steps.Star to) = Stars (spot from) (spot to)
IsWholeStep from (steps.Byte to) = Goes (spot from) (spot to)
IsWholeStep from steps.Stuck = Matches (spot from).items (spot from).text → ⊥

-- the spot before it, with one byte less
pub record IsLater (from to : Spot) : Type 0 where
  pub byte : ℕ
  pub items : to.items ≡ from.items
  pub size : to.size ≡ from.size
  pub text : from.text ≡ byte ∷ to.text

abbrev pub NoLater : Option Spot → Type 0
NoLater None = Unit {0}
NoLater (Some from) = from.text ≡ []

abbrev pub Later : Option Spot → Option Spot → Type 0
Later last None = NoLater last
Later None (Some to) = ⊥
Later (Some from) (Some to) = IsLater from to

-- how many bytes the shortest or the longest front leaves
abbrev pub CutsTo : List Item → Text → Bool → Option ℕ → Type 0
CutsTo items text longest None = NoCut items text
CutsTo items text longest (Some size) = (rest : Text) × IsCut items text longest rest × (length rest ≡ size)
