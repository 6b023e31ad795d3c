-- Names of hosts (RFC 1123, section 2.1; RFC 1035, section 2.3.4).
use Rattle.std.specs.Prelude.{ℕ, ◌-◌, Bool, ◌&&◌, ◌||◌, ◌==◌, nat_le, if◌then◌else◌, List, length, take, slice_index}
use Rattle.std.specs.Char.{is_ascii_alphanumeric}
use Rattle.std.specs.List.{list_all, slice_split}

-- `.`
abbrev pub dot : ℕ
dot = 0x2E

-- letters, digits, `-` and `_`
abbrev pub is_label_byte : ℕ → Bool
is_label_byte b = is_ascii_alphanumeric b || b == 0x2D || b == 0x5F

-- 1 to 63 of them
abbrev pub is_label : List ℕ → Bool
is_label label = nat_le 1 (length label) && nat_le (length label) 63 && list_all is_label_byte label

-- labels with a dot between each two, at most 253 bytes
unfoldable pub is_host_name : List ℕ → Bool
is_host_name text = nat_le (length text) 253 && list_all is_label (slice_split (λ b. b == dot) text)

-- the text without the dot that is its last byte, if it is
abbrev pub without_last_dot : List ℕ → List ℕ
without_last_dot text =
    if nat_le 1 (length text) && slice_index text (length text - 1) == dot
    then take (length text - 1) text else text
