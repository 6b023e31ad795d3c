-- The sectors of a plant in memory that a crash within a call may leave torn, and a plant in short at that moment.
use Rattle.std.specs.Prelude.{◌≡◌, ℕ, suc, zero, ◌/◌, ◌<◌, ◌≤◌, List, [], ◌∷◌, ◌++◌, length, Bool, ◌&&◌, if◌then◌else◌, nat_eq}
use Rattle.std.specs.List.{list_any}
use Rattle.bd_dev.specs.declared.plant.Area.{Area}
use Rattle.bd_dev.specs.declared.plant.Area.TheVariants.{Disk, Flash}
use Rattle.bd_dev.specs.Content.{SameSector}
use Rattle.bd_sim.specs.declared.image.Pick.TheVariants.{Old}
use Rattle.bd_sim.specs.Image.{Picked, crash_image, may_tear}
use Rattle.bd_sim.specs.Journal.{of_area, same_area}
use Rattle.bd_sim.specs.View.{PlantInMemory}

-- a sector by its area and its address
abbrev pub Sector : Type 0
Sector = Area × ℕ

-- the open sectors of an area below an address, in order
abbrev pub open_below : (ℕ → Bool) → Area → ℕ → List Sector
open_below is_open area zero = []
open_below is_open area (suc n) = open_below is_open area n ++ (if is_open n then (area, n) ∷ [] else [])

-- the sectors of an area that a crash within this call may leave torn, in order
abbrev pub open_in : PlantInMemory → ℕ → Area → List Sector
open_in p moment area =
    open_below (λ s. may_tear p.journal moment (area, s, Old)) area (length (of_area p.disk p.flash area) / 512)

-- those of both areas, the disk's first
abbrev pub open_sectors : PlantInMemory → ℕ → List Sector
open_sectors p moment = open_in p moment Disk ++ open_in p moment Flash

-- the pick's sector is among these
abbrev pub is_among : List Sector → Picked → Bool
is_among sectors p = list_any (λ (s : Sector). same_area s.0 p.0 && nat_eq s.1 p.1) sectors

-- A plant of two calls, whose second leaves by the same picks what this call leaves of the other plant.
pub record IsInShort (p : PlantInMemory) (moment : ℕ) (short : PlantInMemory) : Type 0 where
  pub size : (a : Area) → length (of_area short.disk short.flash a) ≡ length (of_area p.disk p.flash a)
  pub same : (picks : List Picked) (a : Area) (s : ℕ) → s < length (of_area p.disk p.flash a) / 512 → SameSector (crash_image p moment picks a) (crash_image short 2 picks a) s

-- what a snapshot keeps: a plant in short, and the open sectors
pub record Kept : Type 0 where
  pub short : PlantInMemory
  pub sectors : List Sector

-- it was taken of this plant, within this call
pub record IsTaken (p : PlantInMemory) (moment : ℕ) (kept : Kept) : Type 0 where
  pub made : moment ≤ p.calls.made
  pub short : IsInShort p moment kept.short
  pub sectors : kept.sectors ≡ open_sectors p moment
