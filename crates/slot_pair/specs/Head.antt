-- What the first two sectors of a slot say, and its body.
use Rattle.std.specs.Prelude.{ℕ, List, take, drop, Bool, ◌&&◌, if◌then◌else◌, nat_le, Option, Some, None}
use Rattle.std.specs.Str.{bytes_eq}
use Rattle.byteorder.specs.Endian.{little_number}
use Rattle.slot_model.specs.Slots.{most_bytes, open_word}

-- the length of the content that a body says
abbrev pub content_length : List ℕ → ℕ
content_length body = little_number 4 (drop 8 body)

-- a slot of n sectors of body is open, by its gate's sector and the sector behind it
abbrev pub is_open_head : ℕ → List ℕ → Bool
is_open_head n head = bytes_eq (take 8 head) open_word && nat_le (content_length (drop 512 head)) (most_bytes n)

-- its number, where it is open
unfoldable pub number_in : ℕ → List ℕ → Option ℕ
number_in n head = if is_open_head n head then Some (little_number 8 (drop 512 head)) else None
