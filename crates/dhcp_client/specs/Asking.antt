-- What a client sends (RFC 2131, sections 3.1 and 4.4.1): a DISCOVER, and a REQUEST for what a server offered.
use Rattle.std.specs.Prelude.{ℕ, List, [], ◌∷◌, ◌++◌, drop, Option, Some, None, bit_xor, codes}
use Rattle.byteorder.specs.Endian.{big_number}
use Rattle.bd_text.specs.declared.mac.Mac.{Mac}
use Rattle.bd_text.specs.declared.v4.V4.{V4}
use Rattle.dhcp_msg.specs.declared.dhcp_option.DhcpOption.{DhcpOption}
use Rattle.dhcp_msg.specs.declared.message.Message.{Message}
use Rattle.dhcp_msg.specs.Spelling.{spelling}
use Rattle.dhcp_client.specs.declared.offer.Offer.{Offer}

-- the number of an interface's messages in a round: its Ethernet address's last four bytes, with the round's bits turned
abbrev pub xid_of : Mac → ℕ → ℕ
xid_of mac round = bit_xor (big_number 4 (drop 2 mac.bytes)) round

-- an option
abbrev pub option : ℕ → List ℕ → DhcpOption
option code value = record { code = code; value = value }

-- the vendor class of a board (RFC 2132, section 9.13)
abbrev pub class_of : List ℕ → List ℕ
class_of platform = codes "onie_vendor:" ++ platform

-- What is asked for (RFC 2132, section 9.8): the mask, routers, name servers, the TFTP server's name, the boot file, web
-- servers, a URL, vendors' own options and TFTP servers.
abbrev pub wanted : List ℕ
wanted = 1 ∷ 3 ∷ 6 ∷ 66 ∷ 67 ∷ 72 ∷ 114 ∷ 125 ∷ 150 ∷ []

-- of a DISCOVER: its type, the vendor class, and what is asked for
abbrev pub discover_options : List ℕ → List DhcpOption
discover_options class = option 53 (1 ∷ []) ∷ option 60 class ∷ option 55 wanted ∷ []

-- of a REQUEST: its type, the address and the server of the offer, and then the same
abbrev pub request_options : Offer → List ℕ → List DhcpOption
request_options offer class =
    option 53 (3 ∷ []) ∷ option 50 offer.address.bytes ∷ option 54 offer.server.bytes ∷ option 60 class ∷ option 55 wanted ∷ []

-- the address that means none
abbrev pub no_address : V4
no_address = record { bytes = 0 ∷ 0 ∷ 0 ∷ 0 ∷ [] }

-- A message of a client: a request, whose reply may come by broadcast. All else is zero.
abbrev pub message_with : Mac → ℕ → List DhcpOption → Message
message_with mac xid options = record {
  op = 1;
  xid = xid;
  flags = 0x8000;
  yiaddr = no_address;
  siaddr = no_address;
  chaddr = mac;
  sname = [];
  file = [];
  options = options;
}

-- what it asks: what is offered, or what this offer says
abbrev pub options_of : List ℕ → Option Offer → List DhcpOption
options_of platform None = discover_options (class_of platform)
options_of platform (Some offer) = request_options offer (class_of platform)

-- the packet that asks it
abbrev pub packet_of : Mac → ℕ → List ℕ → Option Offer → List ℕ
packet_of mac xid platform offer = spelling (message_with mac xid (options_of platform offer))
