-- Where `::` stands in a text.
use Rattle.std.specs.Prelude.{◌≡◌, ℕ, ◌+◌, ◌<◌, ◌≤◌, List, length, slice_index}
use Rattle.bd_text.specs.Marks.{colon}

-- `::` stands at a place
pub record IsGap (text : List ℕ) (place : ℕ) : Type 0 where
  pub mark : slice_index text place ≡ colon
  pub second : slice_index text (place + 1) ≡ colon

-- and at none before it
pub record IsFirstGap (text : List ℕ) (place : ℕ) : Type 0 where
  pub inside : place + 2 ≤ length text
  pub gap : IsGap text place
  pub none_before : (k : ℕ) → k < place → ¬ IsGap text k
