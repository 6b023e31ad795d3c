-- A board's journal: the effects that are noted, the sectors that they put, and the memory that is set aside for more.
use Rattle.std.specs.Prelude.{◌≡◌, ℕ, ◌+◌, ◌-◌, ◌/◌, ◌≤◌, ◌^◌, min, List, [], ◌∷◌, ◌++◌, length, slice_get, Some}
use Rattle.cuts.specs.declared.effect.Effect.{Effect}
use Rattle.cuts.specs.declared.effect.Effect.TheVariants.{Put, Sync, Table as SetTable, Vars as SetVars}

-- the effects, and for how many more memory is set aside
pub record Noted : Type 0 where
  pub effects : List Effect
  pub spare : ℕ
  pub sectors : ℕ

-- the sectors that an effect puts
abbrev pub sectors_of : Effect → ℕ
sectors_of (Put lba bytes) = length bytes / 512
sectors_of Sync = 0
sectors_of (SetTable t) = 0
sectors_of (SetVars text) = 0

abbrev pub sum_of : List Effect → ℕ
sum_of [] = 0
sum_of (x ∷ xs) = sectors_of x + sum_of xs

-- the sectors that these effects put, kept in 64 bits
abbrev pub total_of : List Effect → ℕ
total_of xs = min (sum_of xs) (2 ^ 64 - 1)

-- each text that is set aside has room for any text of variables
abbrev pub AreTexts : List (List ℕ) → Type 0
AreTexts texts = (i : ℕ) (text : List ℕ) → slice_get texts i ≡ Some text → length text ≡ 8180

-- beside so many effects there is room for as many more as texts are set aside
pub record HasRoom (capacity effects : ℕ) (texts : List (List ℕ)) : Type 0 where
  pub room : effects + length texts ≤ capacity
  pub long : AreTexts texts

-- another effect is noted, whose memory may have been set aside
pub record Notes (old new : Noted) (x : Effect) : Type 0 where
  pub effects : new.effects ≡ old.effects ++ x ∷ []
  pub spare : new.spare ≡ old.spare - 1
