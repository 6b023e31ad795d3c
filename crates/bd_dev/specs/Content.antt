-- What an area holds: its byte at each offset. Sector s is the 512 bytes from 512 * s on.
use Rattle.std.specs.Prelude.{◌≡◌, ◌⊎◌, ℕ, suc, zero, ◌+◌, ◌*◌, ◌<◌, ◌≤◌, List, [], ◌∷◌}
use Rattle.bd_dev.specs.declared.plant.Area.{Area}

-- the byte at each offset
abbrev pub Content : Type 0
Content = ℕ → ℕ

-- both areas
abbrev pub Image : Type 0
Image = Area → ℕ → ℕ

-- the n bytes from an offset on
unfoldable pub window : (ℕ → ℕ) → ℕ → ℕ → List ℕ
window z at zero = []
window z at (suc n) = z at ∷ window z (suc at) n

-- two contents agree on a sector
abbrev pub SameSector : (ℕ → ℕ) → (ℕ → ℕ) → ℕ → Type 0
SameSector z c s = (k : ℕ) → k < 512 → c (512 * s + k) ≡ z (512 * s + k)

-- a sector of this area is outside these n; each sector of the other area is
abbrev pub Outside : Area → ℕ → ℕ → Area → ℕ → Type 0
Outside area lba n b s = (b ≡ area) → (s < lba) ⊎ (lba + n ≤ s)
