-- A whole call: a board is opened, and has effects. What a crash within it may leave, and that it boots.
use Rattle.std.specs.Prelude.{◌≡◌, ◌⊎◌, ℕ, ◌<◌, ◌≤◌, List, [], ◌∷◌, ◌++◌, length, Bool, IsTrue, Some}
use Rattle.bd_dev.specs.declared.plant.Area.{Area}
use Rattle.bd_dev.specs.declared.plant.Area.TheVariants.{Disk, Flash}
use Rattle.bd_dev.specs.Content.{Image, SameSector}
use Rattle.bd_dev.specs.Plant.{View, IsImage}
use Rattle.bd_dev.specs.Runs.{LeavesOnly, ReadsOnly}
use Rattle.storage_model.specs.Copies.{IsCleanOpening, OffCopies, ReadsBoth}
use Rattle.storage_model.specs.Choices.{boots_in, boots_of}
use Rattle.storage_model.specs.Soundness.{IsSoundBoard, IsSoundTable}
use Rattle.storage_model.specs.Variables.{IsText, kept_in}
use Rattle.cuts.specs.declared.effect.Effect.{Effect}
use Rattle.cuts.specs.declared.effect.Effect.TheVariants.{Put, Sync}
use Rattle.cuts.specs.States.{State, after, nothing}
use Rattle.cuts.specs.Cuts.{IsSomeCleanCut, MayBeCut, MayBeSomeCut, stored_of}
use Rattle.cuts.specs.Orderly.{AreLawful, AreOrderly}
use Rattle.cuts.specs.Law.{BootsWhole, IsStart, state_in}
use Rattle.cuts.specs.Spans.{MayBeOpeningCut}

-- An image holds all of a state: both copies its table, the flash its variables, and each sector off the copies.
pub record HoldsState (size : Area → ℕ) (s : State) (c : Image) : Type 0 where
  pub table : ReadsBoth (size Disk) (c Disk) s.table
  pub variables : kept_in (size Flash) (c Flash) ≡ Some (stored_of s)
  pub sectors : (q : ℕ) → q < size Disk → OffCopies (size Disk) q → SameSector s.disk (c Disk) q

-- an effect that puts no sectors
abbrev pub IsNoPut : Effect → Type 0
IsNoPut (Put lba bytes) = ⊥
IsNoPut x = Unit {0}

-- none of these puts sectors: no sector is pending after them that wasn't before
abbrev pub PutsNothing : List Effect → Type 0
PutsNothing [] = Unit {0}
PutsNothing (x ∷ xs) = IsNoPut x × PutsNothing xs

-- What a power cut leaves while a sound board is opened boots as that board did, wherever it is clean.
abbrev pub LawOfOpenings : Type 0
LawOfOpenings =
    (size : Area → ℕ) (z : Image) (sound : IsSoundBoard size z) (c : Image)
    → MayBeOpeningCut size z c
    → IsCleanOpening (size Disk) z c
    → BootsWhole size (state_in size z sound) (state_in size z sound) c

-- Success stays: once a run has synced, and put no sectors since, nothing is pending. Whatever cut comes then holds all
-- of the state that the run has reached, orderly or not; no torn copy is to be excused.
abbrev pub LawOfSuccess : Type 0
LawOfSuccess =
    (size : Area → ℕ) (s : State) (P : ℕ → Bool) (xs own : List Effect)
    → PutsNothing own
    → (c : Image) → MayBeCut size s (λ q. IsTrue (P q)) (xs ++ Sync ∷ own) (length (xs ++ Sync ∷ own)) c
    → HoldsState size (after s (xs ++ Sync ∷ own)) c

-- An image that holds all of a sound state boots what that state's table and variables say, and only that.
abbrev pub LawOfBoots : Type 0
LawOfBoots =
    (size : Area → ℕ) (s : State) (c : Image)
    → HoldsState size s c
    → IsSoundTable s.disk s.table
    → IsText s.text
    → boots_in size c ≡ boots_of s.table s.text

-- At the end of an orderly run whatever cut comes boots, also where sectors are pending; no torn copy is to be excused.
abbrev pub LawOfEnds : Type 0
LawOfEnds =
    (size : Area → ℕ) (s : State) (P : ℕ → Bool) (xs : List Effect)
    → IsStart size s (λ q. IsTrue (P q))
    → AreLawful (size Disk) s xs
    → AreOrderly s (λ q. IsTrue (P q)) xs
    → (c : Image) → MayBeCut size s (λ q. IsTrue (P q)) xs (length xs) c
    → BootsWhole size s (after s xs) c

-- A cut behind the last effect is one in which that effect runs: so where a board failed in an effect, those before it
-- are done, and of that one nothing need be known.
abbrev pub LawOfTheLast : Type 0
LawOfTheLast =
    (size : Area → ℕ) (s : State) (P : ℕ → Bool) (xs : List Effect) (x : Effect)
    → AreLawful (size Disk) s (xs ++ x ∷ [])
    → (c : Image) → MayBeCut size s (λ q. IsTrue (P q)) (xs ++ x ∷ []) (length (xs ++ x ∷ [])) c
    → MayBeCut size s (λ q. IsTrue (P q)) (xs ++ x ∷ []) (length xs) c

-- while a board is opened that read as z, or while it has these effects, from this state on
abbrev pub MayBeCutOfCall : (Area → ℕ) → Image → State → List Effect → Image → Type 0
MayBeCutOfCall size z s xs c = MayBeOpeningCut size z c ⊎ MayBeSomeCut size s nothing xs c

-- what a crash within a call may leave: what it could have left before, or a cut of the call
abbrev pub MayLeave : View → State → List Effect → Image → Type 0
MayLeave v s xs c = IsImage v c ⊎ MayBeCutOfCall v.size v.reads s xs c

-- what is read between two calls of the plant: it is clean, too
abbrev pub MayRead : View → State → List Effect → Image → Type 0
MayRead v s xs c =
    (IsCleanOpening (v.size Disk) v.reads c × MayBeOpeningCut v.size v.reads c) ⊎ IsSomeCleanCut v.size s nothing xs c

-- From the entry of a call that opens a board and has these effects to its end, whatever it answers. From some moment on,
-- once both areas were synced, a crash leaves cuts alone.
pub record OpensAndChanges (old new : View) (s : State) (xs : List Effect) : Type 0 where
  pub crash : LeavesOnly old new (MayLeave old s xs)
  pub between : ReadsOnly old new (MayRead old s xs)
  pub settled : ℕ
  pub from : old.moment ≤ settled
  pub to : settled ≤ new.moment
  pub cuts : (c : Image) → new.left_since settled c → MayBeCutOfCall old.size old.reads s xs c
