-- CRC-32 as in IEEE 802.3, section 3.2.9, and the UEFI specification (in catalogues of such codes: ISO-HDLC).
-- It is a remainder of polynomials whose coefficients are bits that add without a carry. A polynomial is
-- the list of its coefficients, that of the highest power first.
use Rattle.std.specs.Prelude.{ℕ, zero, suc, ◌+◌, ◌-◌, ◌*◌, ◌/◌, ◌%◌, ◌^◌, ◌==◌, Bool, true, false, if◌then◌else◌, List, [], ◌∷◌, ◌++◌, length, replicate, reverse, sum_by}
use Rattle.std.specs.Bool.{xor}
use Rattle.std.specs.List.{flat_map}

-- so many low bits of a number, the lowest first
unfoldable pub bits : ℕ → ℕ → List Bool
bits zero n = []
bits (suc count) n = (n % 2 == 1) ∷ bits count (n / 2)

-- the number with these bits, the lowest first
unfoldable pub number : List Bool → ℕ
number [] = 0
number (b ∷ bs) = (if b then 1 else 0) + 2 * number bs

-- the first coefficients of p with those of q added to them
unfoldable pub add : List Bool → List Bool → List Bool
add p [] = p
add [] (d ∷ q) = []
add (c ∷ p) (d ∷ q) = xor c d ∷ add p q

-- the powers of the generator below its highest, which is x^32
abbrev pub generator_powers : List ℕ
generator_powers = 26 ∷ 23 ∷ 22 ∷ 16 ∷ 12 ∷ 11 ∷ 10 ∷ 8 ∷ 7 ∷ 5 ∷ 4 ∷ 2 ∷ 1 ∷ 0 ∷ []

-- the generator's 32 coefficients below its highest
unfoldable pub generator : List Bool
generator = reverse (bits 32 (sum_by (λ power. 2 ^ power) generator_powers))

-- What so many steps of long division by the generator leave of a polynomial. Each step cancels the first
-- coefficient, by adding the generator to it and those behind it where it is one.
unfoldable pub divide : ℕ → List Bool → List Bool
divide zero p = p
divide (suc steps) [] = []
divide (suc steps) (c ∷ p) = divide steps (if c then add p generator else p)

-- the remainder of a division by the generator: its last 32 coefficients, after a step for each other one
unfoldable pub remainder : List Bool → List Bool
remainder p = divide (length p - 32) p

-- a polynomial with its first 32 coefficients complemented
unfoldable pub complement : List Bool → List Bool
complement p = add p (replicate 32 true)

-- bytes as a polynomial: the bits of each byte in turn, the lowest first
unfoldable pub message : List ℕ → List Bool
message bytes = flat_map (bits 8) bytes

-- The CRC-32 of bytes: their polynomial times x^32, complemented in front, leaves a remainder. The
-- checksum is that, complemented, with the coefficient of the highest power as its lowest bit.
unfoldable pub crc32_of : List ℕ → ℕ
crc32_of bytes = number (complement (remainder (complement (message bytes ++ replicate 32 false))))
