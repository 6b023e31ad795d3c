-- ONIE's image, which its partition holds: a sector that begins with a mark and the image's length, and the sectors of
-- the image behind it.
use Rattle.std.specs.Prelude.{ℕ, ◌-◌, ◌*◌, List, take, codes, Bool, ◌&&◌, nat_le}
use Rattle.std.specs.Str.{bytes_eq}
use Rattle.bd_dev.specs.Content.{window}
use Rattle.gpt_copy.specs.declared.table.Entry.{Entry}
use Rattle.gpt_copy.specs.Rows.{number_at}

-- the mark
abbrev pub image_word : List ℕ
image_word = codes "ONIEIMG1"

-- the most bytes that an image has
abbrev pub most_image : ℕ
most_image = 2097140

-- a sector begins with the mark and the length of an image of at least a byte, for which there is room for so many
unfoldable pub is_image_head : List ℕ → ℕ → Bool
is_image_head sector room =
    bytes_eq (take 8 sector) image_word
    && nat_le 1 (number_at 8 4 sector)
    && nat_le (number_at 8 4 sector) most_image
    && nat_le (number_at 8 4 sector) room

-- the first sector of a partition
abbrev pub first_sector : (ℕ → ℕ) → Entry → List ℕ
first_sector disk e = window disk (512 * e.first) 512

-- the partition holds an image, in its first sector and as many behind it as the image needs
abbrev pub has_image : (ℕ → ℕ) → Entry → Bool
has_image disk e = is_image_head (first_sector disk e) (512 * (e.last - e.first))
