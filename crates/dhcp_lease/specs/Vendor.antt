-- Vendors' own options (RFC 3925, section 4).
use Rattle.std.specs.Prelude.{ℕ, zero, suc, ◌+◌, ◌==◌, nat_lt, if◌then◌else◌, List, [], ◌∷◌, ◌++◌, length, drop, Option, Some, None}
use Rattle.std.specs.Option.{option_and_then, option_map}
use Rattle.byteorder.specs.Endian.{big_number}
use Rattle.dhcp_msg.specs.declared.dhcp_option.DhcpOption.{DhcpOption}
use Rattle.dhcp_msg.specs.Options.{value_of}
use Rattle.dhcp_msg.specs.Reading.{value_at}

-- a step more, unless the ones before or this one found no value
abbrev pub followed_by : Option (List DhcpOption) → Option (List DhcpOption) → Option (List DhcpOption)
followed_by os more = option_and_then (λ first. option_map (λ rest. first ++ rest) more) os

-- The sub-options in a block: each a code, a length and so many bytes, the last of which ends the block. Each has
-- a byte, so as many steps as bytes suffice.
unfoldable pub suboptions_at : ℕ → List ℕ → Option (List DhcpOption)
suboptions_at steps [] = Some []
suboptions_at zero (code ∷ rest) = None
suboptions_at (suc steps) (code ∷ rest) =
    option_and_then (λ value. followed_by (Some (record { code = code; value = value } ∷ [])) (suboptions_at steps (drop (1 + length value) rest))) (value_at rest)

unfoldable pub suboptions_in : List ℕ → Option (List DhcpOption)
suboptions_in inner = suboptions_at (length inner) inner

-- those of a block that count: all of ONIE's enterprise number, and none of another
unfoldable pub block_options : ℕ → List ℕ → Option (List DhcpOption)
block_options enterprise inner = if enterprise == 42623 then suboptions_in inner else Some []

-- Those of a value of option 125 that count: of its blocks, each an enterprise number of four bytes, a length and so
-- many bytes, the last of which ends the value.
unfoldable pub vendor_at : ℕ → List ℕ → Option (List DhcpOption)
vendor_at steps [] = Some []
vendor_at zero (b ∷ rest) = None
vendor_at (suc steps) (b ∷ rest) =
    if nat_lt (length rest) 3 then None
    else option_and_then (λ inner.
    followed_by (block_options (big_number 4 (b ∷ rest)) inner) (vendor_at steps (drop (1 + length inner) (drop 3 rest)))) (value_at (drop 3 rest))

unfoldable pub vendor_options : List ℕ → Option (List DhcpOption)
vendor_options value = vendor_at (length value) value

-- the value of ONIE's sub-option with the code, the first over all blocks of a value of option 125
abbrev pub suboption_of : ℕ → Option (List ℕ) → Option (List ℕ)
suboption_of code value = option_and_then (value_of code) (option_and_then vendor_options value)
