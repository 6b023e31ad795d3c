-- IPv6 addresses as text (RFC 4291, section 2.2; RFC 5952, section 4).
use Rattle.std.specs.Prelude.{◌≡◌, ℕ, ◌+◌, ◌*◌, ◌<◌, ◌≤◌, ◌⊎◌, List, [], ◌∷◌, ◌++◌, length, map, replicate, take, drop, slice_index}
use Rattle.std.specs.List.{join_with_byte}
use Rattle.bd_text.specs.Digits.{AreBytes, shortest}
use Rattle.bd_text.specs.Group.{SpellsGroup}
use Rattle.bd_text.specs.Marks.{colon}
use Rattle.bd_text.specs.Parts.{SpellsJoined}
use Rattle.bd_text.specs.declared.digits.Case.TheVariants.{Lower}

-- the groups: the numbers of each two bytes, the high one first
abbrev pub v6_groups : List ℕ → List ℕ
v6_groups [] = []
v6_groups (last ∷ []) = []
v6_groups (high ∷ low ∷ rest) = (high * 256 + low) ∷ v6_groups rest

-- groups with `:` between each two
abbrev pub SpellsInFull : List ℕ → List ℕ → Type 0
SpellsInFull groups text = SpellsJoined SpellsGroup colon groups text

-- two lists of groups with `::` between them
pub record SpellsSides (before after text : List ℕ) : Type 0 where
  pub head : List ℕ
  pub tail : List ℕ
  pub head_is : SpellsInFull before head
  pub tail_is : SpellsInFull after tail
  pub text_is : text ≡ head ++ colon ∷ colon ∷ tail

-- groups of which one or more zeros in a row are left out, with `::` in their place
pub record SpellsWithGap (groups text : List ℕ) : Type 0 where
  pub before : List ℕ
  pub after : List ℕ
  pub zeros : ℕ
  pub some : 0 < zeros
  pub groups_are : groups ≡ before ++ (replicate zeros 0 ++ after)
  pub sides : SpellsSides before after text

-- groups in either form
abbrev pub SpellsGroups : List ℕ → List ℕ → Type 0
SpellsGroups groups text = SpellsInFull groups text ⊎ SpellsWithGap groups text

-- sixteen bytes, whose eight groups the text spells
pub record SpellsV6 (bytes text : List ℕ) : Type 0 where
  pub sixteen : AreBytes 16 bytes
  pub groups : SpellsGroups (v6_groups bytes) text

-- so many groups from a place on are there, and all are zero
pub record IsZeroRun (groups : List ℕ) (start count : ℕ) : Type 0 where
  pub inside : start + count ≤ length groups
  pub zeros : (k : ℕ) → start ≤ k → k < start + count → slice_index groups k ≡ 0

-- The run that `::` stands for (RFC 5952, section 4.2): at least two zero groups, no run is longer,
-- and none as long starts earlier.
pub record IsShortened (groups : List ℕ) (start count : ℕ) : Type 0 where
  pub two : 2 ≤ count
  pub run : IsZeroRun groups start count
  pub longest : (s n : ℕ) → IsZeroRun groups s n → n ≤ count
  pub first : (s : ℕ) → IsZeroRun groups s count → start ≤ s

-- the groups in lower-case letters without leading zeros, with `:` between each two
abbrev pub groups_text : List ℕ → List ℕ
groups_text groups = join_with_byte colon (map (shortest Lower 16) groups)

-- the groups with `::` in place of a run
abbrev pub gap_text : List ℕ → ℕ → ℕ → List ℕ
gap_text groups start count =
    groups_text (take start groups) ++ colon ∷ colon ∷ groups_text (drop (start + count) groups)

-- the one text that is printed: in full where no two zero groups stand in a row, else with the run
-- shortened
abbrev pub PrintsGroups : List ℕ → List ℕ → Type 0
PrintsGroups groups text =
    (((start : ℕ) → ¬ IsZeroRun groups start 2) × (text ≡ groups_text groups))
    ⊎ ((start count : ℕ) × IsShortened groups start count × (text ≡ gap_text groups start count))

-- the one text of an address
abbrev pub PrintsV6 : List ℕ → List ℕ → Type 0
PrintsV6 bytes text = PrintsGroups (v6_groups bytes) text
