-- Long division by a register of 32 bits, whose lowest bit is the coefficient of the highest power.
use Rattle.std.specs.Prelude.{◌≡◌, ℕ, Bool, false, List, ◌++◌, replicate}
use Rattle.bd_bytes.specs.Crc.{bits, add, remainder}

-- the remainder of a polynomial times x^32 with a register added in front
unfoldable pub remainder_with : ℕ → List Bool → List Bool
remainder_with register p = remainder (add (p ++ replicate 32 false) (bits 32 register))

-- dividing the front and what follows from the old register is dividing what follows from the new one
abbrev pub Divides : List Bool → ℕ → ℕ → Type 0
Divides front old new = (rest : List Bool) → remainder_with old (front ++ rest) ≡ remainder_with new rest
