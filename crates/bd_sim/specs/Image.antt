-- What a crash within a call of a plant in memory leaves.
use Rattle.std.specs.Prelude.{◌≡◌, ℕ, ◌+◌, ◌*◌, ◌/◌, ◌%◌, ◌<◌, List, [], ◌∷◌, length, take, slice_index, Bool, ◌&&◌, ◌||◌, if◌then◌else◌, nat_lt, nat_le, nat_eq}
use Rattle.std.specs.List.{list_all}
use Rattle.bd_dev.specs.declared.plant.Area.{Area}
use Rattle.bd_dev.specs.Content.{Image, SameSector}
use Rattle.bd_dev.specs.Plant.{IsSynced}
use Rattle.bd_dev.specs.Calls.{no_calls}
use Rattle.bd_sim.specs.declared.image.Pick.{Pick}
use Rattle.bd_sim.specs.declared.image.Pick.TheVariants.{Old, New, Torn}
use Rattle.bd_sim.specs.declared.journal.Noted.{Noted}
use Rattle.bd_sim.specs.Journal.{same_area, after_each, start, of_area, before_call, with_call}
use Rattle.bd_sim.specs.View.{none_written, PlantInMemory, before, after, view_of}

-- a sector, by its area and its address, and what is left of it
abbrev pub Picked : Type 0
Picked = Area × ℕ × Pick

-- what is left of a sector: by the last pick of it, and this where none is
abbrev pub pick_of : List Picked → Area → ℕ → Pick → Pick
pick_of [] area s left = left
pick_of (p ∷ ps) area s left = pick_of ps area s (if same_area p.0 area && nat_eq p.1 s then p.2 else left)

-- byte k of a sector, which was old and would be new
abbrev pub byte_of : Pick → ℕ → ℕ → ℕ → ℕ
byte_of Old k old new = old
byte_of New k old new = new
byte_of (Torn byte) k old new = if nat_lt k 256 then new else byte

-- each sector of an area by its pick, and Old where it has none
abbrev pub picked : (ℕ → ℕ) → (ℕ → ℕ) → List Picked → Area → ℕ → ℕ
picked old new picks area at = byte_of (pick_of picks area (at / 512) Old) (at % 512) (old at) (new at)

-- what a crash within this call leaves: each sector as at the last sync before it, or as the call would leave it
abbrev pub crash_image : PlantInMemory → ℕ → List Picked → Image
crash_image p moment picks area = picked ((before p moment).durable area) ((after p moment).reads area) picks area

-- which sectors are unsynced after these calls, whatever the areas held at first
abbrev pub unsynced_after : List Noted → Area → ℕ → Bool
unsynced_after journal = (after_each (start [] []) journal).unsynced

-- a sector is unsynced as this call begins, or may be written by it
abbrev pub may_tear : List Noted → ℕ → Picked → Bool
may_tear journal moment p =
    unsynced_after (take (before_call journal moment) journal) p.0 p.1
    || unsynced_after (take (with_call journal moment) journal) p.0 p.1

-- there was such a call, or it is 0, and a crash within it may leave each of these sectors torn
abbrev pub allows : PlantInMemory → ℕ → List Picked → Bool
allows p moment picks = nat_le moment p.calls.made && list_all (may_tear p.journal moment) picks

-- these are the bytes of an area of n bytes, by its picks
pub record IsPicked (old new : ℕ → ℕ) (picks : List Picked) (area : Area) (n : ℕ) (bytes : List ℕ) : Type 0 where
  pub size : length bytes ≡ n
  pub sectors : (s k : ℕ) → s < n / 512 → k < 512 → slice_index bytes (512 * s + k) ≡ picked old new picks area (512 * s + k)

-- a new plant, of the same sizes, reads what the crash leaves
pub record IsLeft (p : PlantInMemory) (moment : ℕ) (picks : List Picked) (q : PlantInMemory) : Type 0 where
  pub size : (a : Area) → length (of_area q.disk q.flash a) ≡ length (of_area p.disk p.flash a)
  pub reads : (a : Area) (s : ℕ) → s < (view_of p).size a → SameSector (crash_image p moment picks a) ((view_of q).reads a) s
  pub synced : (a : Area) → IsSynced (view_of q) a
  pub no_journal : q.journal ≡ []
  pub no_calls : q.calls ≡ no_calls []
  pub no_writes : q.writes ≡ none_written
