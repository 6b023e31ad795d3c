-- The law of cuts: at every cut of an orderly run the board boots ONIE, or a NOS that holds every byte written to it.
use Rattle.std.specs.Prelude.{ℕ, ◌-◌, ◌≤◌, List, length, take, Option, Bool, IsTrue}
use Rattle.bd_dev.specs.declared.plant.Area.{Area}
use Rattle.bd_dev.specs.declared.plant.Area.TheVariants.{Disk}
use Rattle.bd_dev.specs.Content.{Image, SameSector}
use Rattle.gpt_copy.specs.declared.table.Entry.{Entry}
use Rattle.gpt_copy.specs.Copy.{FitsDisk}
use Rattle.storage_model.specs.Entries.{InEntry, OnieEntry}
use Rattle.storage_model.specs.Soundness.{IsSoundBoard, IsSoundTable}
use Rattle.storage_model.specs.Variables.{IsText}
use Rattle.cuts.specs.declared.effect.Effect.{Effect}
use Rattle.cuts.specs.States.{State, after, nothing, off_copies, pending}
use Rattle.cuts.specs.Cuts.{IsCleanFor, IsCut, IsCutAt, MayBeCutAt}
use Rattle.cuts.specs.Orderly.{AreLawful, AreOrderly, HasOnieAs, IsNamed, KeepsOffBoth}

-- A state from which the law holds: it is sound, and no pending sector lies in ONIE's entry or in the named one.
pub record IsStart (size : Area → ℕ) (s : State) (P : ℕ → Type 0) : Type 0 where
  pub fits : FitsDisk (size Disk - 1) s.table
  pub sound : IsSoundTable s.disk s.table
  pub text : IsText s.text
  pub off : KeepsOffBoth P s

-- An image is sound, so it boots ONIE or a NOS. ONIE's partition lies where it lay at the start, and holds what it held
-- then. The NOS that is named holds what it holds now.
pub record BootsWhole (size : Area → ℕ) (start now : State) (c : Image) : Type 0 where
  pub sound : IsSoundBoard size c
  pub place : (i : ℕ) (e : Entry) → OnieEntry start.table i e → HasOnieAs sound.table e
  pub onie : (i : ℕ) (e : Entry) → OnieEntry start.table i e → (q : ℕ) → InEntry e q → SameSector start.disk (c Disk) q
  pub nos : (i : ℕ) (e : Entry) → IsNamed sound.table sound.kept.content i e → (q : ℕ) → InEntry e q → SameSector now.disk (c Disk) q

-- the law: a cut boots
abbrev pub LawOfCuts : Type 0
LawOfCuts =
    (size : Area → ℕ) (s : State) (P : ℕ → Bool) (xs : List Effect)
    → IsStart size s (λ q. IsTrue (P q))
    → AreLawful (size Disk) s xs
    → AreOrderly s (λ q. IsTrue (P q)) xs
    → (k : ℕ) → k ≤ length xs
    → (c : Image) → IsCut size s (λ q. IsTrue (P q)) xs k c
    → BootsWhole size s (after s (take k xs)) c

-- and the state after each effect is a start again
abbrev pub LawOfStarts : Type 0
LawOfStarts =
    (size : Area → ℕ) (s : State) (P : ℕ → Bool) (xs : List Effect)
    → IsStart size s (λ q. IsTrue (P q))
    → AreLawful (size Disk) s xs
    → AreOrderly s (λ q. IsTrue (P q)) xs
    → (k : ℕ) → k ≤ length xs
    → IsStart size (after s (take k xs)) (pending (λ q. IsTrue (P q)) (take k xs))

-- The form of a cut in which a torn copy is excused implies the plain one, wherever the image is clean.
abbrev pub CleanCutsAreCuts : Type 0
CleanCutsAreCuts =
    (size : Area → ℕ) (s : State) (P : ℕ → Bool) (x : Option Effect) (c : Image)
    → MayBeCutAt size s (λ q. IsTrue (P q)) x c
    → IsCleanFor (size Disk) s.table x c
    → IsCutAt size s (λ q. IsTrue (P q)) x c

-- what a sound image holds
abbrev pub state_in : (size : Area → ℕ) (c : Image) → IsSoundBoard size c → State
state_in size c sound = record {
  table = sound.table;
  text = sound.kept.content;
  number = sound.kept.number;
  disk = off_copies (size Disk) (c Disk);
}

-- that is a start, of which nothing is pending: so the law holds anew after a cut, however often cuts come
abbrev pub SoundBoardsAreStarts : Type 0
SoundBoardsAreStarts = (size : Area → ℕ) (c : Image) (sound : IsSoundBoard size c) → IsStart size (state_in size c sound) nothing
