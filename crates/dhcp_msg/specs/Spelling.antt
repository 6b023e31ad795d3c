-- How a message is written.
use Rattle.std.specs.Prelude.{◌≡◌, ℕ, ◌-◌, List, [], ◌∷◌, ◌++◌, length, replicate}
use Rattle.std.specs.List.{flat_map}
use Rattle.byteorder.specs.Endian.{big_bytes}
use Rattle.dhcp_msg.specs.declared.message.Message.{Message}
use Rattle.dhcp_msg.specs.declared.dhcp_option.DhcpOption.{DhcpOption}
use Rattle.dhcp_msg.specs.Fields.{option_bytes}
use Rattle.dhcp_msg.specs.Layout.{cookie}

abbrev pub zeros : ℕ → List ℕ
zeros size = replicate size 0

-- a text, with zeros up to the size of its field
abbrev pub padded : ℕ → List ℕ → List ℕ
padded size text = text ++ zeros (size - length text)

-- `op`, `htype` 1 for Ethernet, `hlen` 6, `hops` 0, `xid`, `secs` 0, `flags`
unfoldable pub head_bytes : Message → List ℕ
head_bytes m = (m.op ∷ 1 ∷ 6 ∷ 0 ∷ []) ++ big_bytes 4 m.xid ++ zeros 2 ++ big_bytes 2 m.flags

-- `ciaddr` 0, `yiaddr`, `siaddr`, `giaddr` 0, `chaddr`
unfoldable pub address_bytes : Message → List ℕ
address_bytes m = zeros 4 ++ m.yiaddr.bytes ++ m.siaddr.bytes ++ zeros 4 ++ m.chaddr.bytes ++ zeros 10

-- `sname`, `file`
unfoldable pub text_bytes : Message → List ℕ
text_bytes m = padded 64 m.sname ++ padded 128 m.file

-- the options one after the other, and the end
unfoldable pub options_bytes : List DhcpOption → List ℕ
options_bytes os = flat_map option_bytes os ++ 255 ∷ []

-- the message's one spelling (RFC 2131, section 2)
unfoldable pub spelling : Message → List ℕ
spelling m = head_bytes m ++ address_bytes m ++ text_bytes m ++ cookie ++ options_bytes m.options

-- as long as addresses are
pub record HasAddressSizes (m : Message) : Type 0 where
  pub yiaddr : length m.yiaddr.bytes ≡ 4
  pub siaddr : length m.siaddr.bytes ≡ 4
  pub chaddr : length m.chaddr.bytes ≡ 6
