-- What the values of options are (RFC 2132). A value of another length counts as absent.
use Rattle.std.specs.Prelude.{ℕ, ◌%◌, ◌==◌, if◌then◌else◌, List, [], ◌∷◌, length, slice_index, take, Option, Some, None}
use Rattle.bd_text.specs.declared.v4.V4.{V4}
use Rattle.dhcp_msg.specs.declared.message.Message.{Message}
use Rattle.dhcp_msg.specs.Options.{value_of}

-- a number, of one byte
abbrev pub byte_of : Option (List ℕ) → Option ℕ
byte_of None = None
byte_of (Some value) = if length value == 1 then Some (slice_index value 0) else None

-- an address, of four bytes
abbrev pub address_of : Option (List ℕ) → Option V4
address_of None = None
address_of (Some value) = if length value == 4 then Some (record { bytes = value }) else None

-- the addresses that stand one after the other, of four bytes each
abbrev pub quads : List ℕ → List V4
quads (a ∷ b ∷ c ∷ d ∷ rest) = record { bytes = a ∷ b ∷ c ∷ d ∷ [] } ∷ quads rest
quads rest = []

-- addresses, of which the first eight are kept
abbrev pub addresses_of : Option (List ℕ) → List V4
addresses_of None = []
addresses_of (Some value) = if length value % 4 == 0 then take 8 (quads value) else []

-- the message type (RFC 2132, section 9.6)
abbrev pub type_of : Message → Option ℕ
type_of message = byte_of (value_of 53 message.options)

-- the server (RFC 2132, section 9.7)
abbrev pub server_of : Message → Option V4
server_of message = address_of (value_of 54 message.options)
