-- The bytes of a body, and of a slot as it is written.
use Rattle.std.specs.Prelude.{◌≡◌, ℕ, ◌+◌, ◌*◌, ◌/◌, ◌<◌, List, ◌++◌, length, replicate, slice_index}
use Rattle.byteorder.specs.Endian.{little_bytes}
use Rattle.bd_dev.specs.Content.{window}
use Rattle.slot_model.specs.Slots.{open_word}

-- what stands before the content: its number and its length
abbrev pub body_head : ℕ → ℕ → List ℕ
body_head number n = little_bytes 8 number ++ little_bytes 4 n

-- all bytes of a body that are not filling
abbrev pub body_bytes : ℕ → List ℕ → List ℕ
body_bytes number content = body_head number (length content) ++ content

-- how many sectors hold a byte of the body of a content of n bytes
abbrev pub used_sectors : ℕ → ℕ
used_sectors n = (n + 523) / 512

-- the first n bytes from an offset on are those of a list, and zeros behind it
abbrev pub Written : (ℕ → ℕ) → ℕ → List ℕ → ℕ → Type 0
Written z at bytes n = (k : ℕ) → k < n → z (at + k) ≡ slice_index bytes k

-- A slot as it is written: its gate is the word and zeros, and the sectors that hold a byte of its body are filled with
-- zeros.
pub record IsSpelled (z : ℕ → ℕ) (gate number : ℕ) (content : List ℕ) : Type 0 where
  pub word : window z (512 * gate) 512 ≡ open_word ++ replicate 504 0
  pub body : Written z (512 * (gate + 1)) (body_bytes number content) (512 * used_sectors (length content))
