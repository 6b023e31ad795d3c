-- States of a board, and what effects make of them.
use Rattle.std.specs.Prelude.{◌⊎◌, ℕ, ◌+◌, ◌-◌, ◌*◌, ◌/◌, ◌<◌, ◌≤◌, List, [], ◌∷◌, length, slice_index, Bool, ◌&&◌, ◌||◌, ◌==◌, nat_le, nat_lt, if◌then◌else◌}
use Rattle.gpt_copy.specs.declared.table.Table.{Table}
use Rattle.cuts.specs.declared.effect.Effect.{Effect}
use Rattle.cuts.specs.declared.effect.Effect.TheVariants.{Put, Sync, Table as SetTable, Vars as SetVars}

-- A table, the variables' text and its number, and the disk's byte at each offset. The two copies of the table are no
-- part of the disk here: the table stands for them.
pub record State : Type 0 where
  pub table : Table
  pub text : List ℕ
  pub number : ℕ
  pub disk : ℕ → ℕ

-- a content with these bytes put at this offset
unfoldable pub patch : (ℕ → ℕ) → ℕ → List ℕ → ℕ → ℕ
patch z at bytes k = if nat_le at k && nat_lt k (at + length bytes) then slice_index bytes (k - at) else z k

-- the state after an effect
abbrev pub after_one : State → Effect → State
after_one s (Put lba bytes) = record s { disk = patch s.disk (512 * lba) bytes }
after_one s Sync = s
after_one s (SetTable t) = record s { table = t }
after_one s (SetVars text) = record s { text = text; number = s.number + 1 }

-- the state after effects in their order
abbrev pub after : State → List Effect → State
after s [] = s
after s (x ∷ xs) = after (after_one s x) xs

-- a sector of a put
pub record InPut (lba : ℕ) (bytes : List ℕ) (s : ℕ) : Type 0 where
  pub from : lba ≤ s
  pub until : s < lba + length bytes / 512

-- The sectors that may be unsynced after an effect: a change of the table is made durable with all that was put.
abbrev pub pending_one : (ℕ → Type 0) → Effect → ℕ → Type 0
pending_one P (Put lba bytes) s = P s ⊎ InPut lba bytes s
pending_one P Sync s = ⊥
pending_one P (SetTable t) s = ⊥
pending_one P (SetVars text) s = P s

-- the sectors that may be unsynced after effects, where these were before
abbrev pub pending : (ℕ → Type 0) → List Effect → ℕ → Type 0
pending P [] = P
pending P (x ∷ xs) = pending (pending_one P x) xs

-- no sector
abbrev pub nothing : ℕ → Type 0
nothing s = ⊥

-- a sector of a disk of so many sectors is in no copy of the table
abbrev pub is_off_copies : ℕ → ℕ → Bool
is_off_copies size s = (s == 0) || (nat_le 34 s && nat_lt (s + 33) size)

-- what a state holds of a disk: nothing of the copies
unfoldable pub off_copies : ℕ → (ℕ → ℕ) → ℕ → ℕ
off_copies size z k = if is_off_copies size (k / 512) then z k else 0
