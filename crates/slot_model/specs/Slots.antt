-- A pair of slots, of which one is current. A slot is a gate's sector, and n sectors of its body behind it.
use Rattle.std.specs.Prelude.{ℕ, ◌+◌, ◌-◌, ◌*◌, List, Bool, true, false, if◌then◌else◌, nat_lt, nat_le, Option, Some, None, codes}
use Rattle.std.specs.Str.{bytes_eq}
use Rattle.byteorder.specs.Endian.{little_number}
use Rattle.bd_dev.specs.Content.{window}

-- a gate is open exactly where it begins with these bytes
abbrev pub open_word : List ℕ
open_word = codes "ONIEOPEN"

-- the gate in this sector is open
unfoldable pub is_open_gate : (ℕ → ℕ) → ℕ → Bool
is_open_gate z gate = bytes_eq (window z (512 * gate) 8) open_word

-- what a slot holds: a content, and the number of the put that wrote it
pub record Stored : Type 0 where
  pub number : ℕ
  pub content : List ℕ

-- the body behind a gate: its number, the length of its content, and the content
unfoldable pub body_number : (ℕ → ℕ) → ℕ → ℕ
body_number z gate = little_number 8 (window z (512 * (gate + 1)) 8)

unfoldable pub body_length : (ℕ → ℕ) → ℕ → ℕ
body_length z gate = little_number 4 (window z (512 * (gate + 1) + 8) 4)

abbrev pub body_content : (ℕ → ℕ) → ℕ → List ℕ
body_content z gate = window z (512 * (gate + 1) + 12) (body_length z gate)

-- the most bytes that a content in n sectors has
abbrev pub most_bytes : ℕ → ℕ
most_bytes n = 512 * n - 12

-- what the body behind a gate holds, if its length fits in n sectors
unfoldable pub body : ℕ → (ℕ → ℕ) → ℕ → Option Stored
body n z gate =
    if nat_le (body_length z gate) (most_bytes n)
    then Some (record { number = body_number z gate; content = body_content z gate })
    else None

-- what a slot holds, if it is open
unfoldable pub slot : ℕ → (ℕ → ℕ) → ℕ → Option Stored
slot n z gate = if is_open_gate z gate then body n z gate else None

-- the one with the greater number, the first on a tie
abbrev pub newer : Option Stored → Option Stored → Option Stored
newer None second = second
newer (Some a) None = Some a
newer (Some a) (Some b) = if nat_lt a.number b.number then Some b else Some a

-- where a slot of the pair at a base begins: the first, or the second
abbrev pub slot_lba : ℕ → ℕ → Bool → ℕ
slot_lba n base second = if second then base + n + 1 else base

-- how many sectors a pair takes
abbrev pub pair_sectors : ℕ → ℕ
pair_sectors n = 2 * (n + 1)

-- the current slot of the pair at a base
abbrev pub current : ℕ → (ℕ → ℕ) → ℕ → Option Stored
current n z base = newer (slot n z (slot_lba n base false)) (slot n z (slot_lba n base true))

-- the same, in an area of so many sectors: none where the pair has no room
abbrev pub current_in : ℕ → ℕ → (ℕ → ℕ) → ℕ → Option Stored
current_in size n z base = if nat_lt size (base + pair_sectors n) then None else current n z base
