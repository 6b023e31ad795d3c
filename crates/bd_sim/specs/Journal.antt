-- What the noted calls of a plant in memory leave.
use Rattle.std.specs.Prelude.{◌≡◌, ℕ, ◌+◌, ◌-◌, ◌*◌, ◌/◌, ◌<◌, List, [], ◌∷◌, length, slice_index, Bool, true, false, not, ◌&&◌, ◌||◌, if◌then◌else◌, nat_lt, nat_le, nat_eq, IsTrue, position, slice_get, unwrap_or, option_map}
use Rattle.bd_dev.specs.declared.plant.Area.{Area}
use Rattle.bd_dev.specs.declared.plant.Area.TheVariants.{Disk, Flash}
use Rattle.bd_dev.specs.Content.{Image, SameSector}
use Rattle.bd_sim.specs.declared.journal.Noted.{Noted}
use Rattle.bd_sim.specs.declared.journal.Step.{Step}
use Rattle.bd_sim.specs.declared.journal.Step.TheVariants.{Write, FailedWrite, Sync}

-- what is read, what was read at each area's last successful sync, and which sectors were written since
pub record State : Type 0 where
  pub reads : Image
  pub durable : Image
  pub unsynced : Area → ℕ → Bool

abbrev pub same_area : Area → Area → Bool
same_area Disk Disk = true
same_area Flash Flash = true
same_area Disk Flash = false
same_area Flash Disk = false

-- a number is among these n, from this one on
abbrev pub in_range : ℕ → ℕ → ℕ → Bool
in_range first n k = nat_le first k && nat_lt k (first + n)

-- these bytes put at this offset
unfoldable pub patch : (ℕ → ℕ) → ℕ → List ℕ → ℕ → ℕ
patch z at bytes k = if in_range at (length bytes) k then slice_index bytes (k - at) else z k

-- after one noted call more
abbrev pub step : State → Step → State
step s (Write area lba bytes) = record s {
  reads = λ a. if same_area a area then patch (s.reads a) (512 * lba) bytes else s.reads a;
  unsynced = λ a q. (same_area a area && in_range lba ((length bytes + 511) / 512) q) || s.unsynced a q;
}
step s (FailedWrite area lba n) = record s { unsynced = λ a q. (same_area a area && in_range lba n q) || s.unsynced a q }
step s (Sync area) = record s {
  durable = λ a. if same_area a area then s.reads a else s.durable a;
  unsynced = λ a q. not (same_area a area) && s.unsynced a q;
}

-- after these noted calls
abbrev pub after_each : State → List Noted → State
after_each s [] = s
after_each s (x ∷ xs) = after_each (step s x.step) xs

-- what belongs to an area
abbrev pub of_area : {T : Type 0} → T → T → Area → T
of_area disk flash Disk = disk
of_area disk flash Flash = flash

-- the areas hold these bytes, and nothing is unsynced
abbrev pub start : List ℕ → List ℕ → State
start disk flash = record {
  reads = λ a. slice_index (of_area disk flash a);
  durable = λ a. slice_index (of_area disk flash a);
  unsynced = λ a q. false;
}

-- it is a sync of this area
abbrev pub is_sync : Step → Area → Bool
is_sync (Write a at bytes) area = false
is_sync (FailedWrite a lba n) area = false
is_sync (Sync a) area = same_area area a

-- these bytes are the content's from an offset on
abbrev pub IsRead : (ℕ → ℕ) → ℕ → List ℕ → Type 0
IsRead z at bytes = (k : ℕ) → k < length bytes → slice_index bytes k ≡ z (at + k)

-- how many of the noted calls come before the call of this number
abbrev pub before_call : List Noted → ℕ → ℕ
before_call journal number = unwrap_or (position (λ (x : Noted). nat_le number x.number) journal) (length journal)

-- the same, with the call itself where it was noted
abbrev pub with_call : List Noted → ℕ → ℕ
with_call journal number =
    let before = before_call journal number in
    let is_noted = unwrap_or (option_map (λ (x : Noted). nat_eq x.number number) (slice_get journal before)) false in
    if is_noted then before + 1 else before

-- a crash in this state may leave this
abbrev pub IsImageOf : State → Image → Type 0
IsImageOf s c = (a : Area) (q : ℕ) → (IsTrue (s.unsynced a q) → ⊥) → SameSector (s.reads a) (c a) q
