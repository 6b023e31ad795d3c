-- The replies of a line, and what is wrong with its words.
use Rattle.std.specs.Prelude.{◌≡◌, ℕ, ◌+◌, ◌==◌, nat_lt, if◌then◌else◌, List, [], ◌∷◌, length, take, drop, position, unwrap_or, Option, Some, None, Result, Ok, Err}
use Rattle.bd_text.specs.declared.mac.Mac.{Mac}
use Rattle.bd_text.specs.declared.v4.V4.{V4}
use Rattle.dhcp_msg.specs.Adding.{added}
use Rattle.dhcp_msg.specs.Options.{value_of}
use Rattle.dhcp_msg.specs.declared.dhcp_option.DhcpOption.{DhcpOption}
use Rattle.dhcp_msg.specs.declared.message.Message.{Message}
use Rattle.lease_line.specs.Addresses.{address_in, list_in}
use Rattle.lease_line.specs.Keys.{key_of}
use Rattle.lease_line.specs.declared.fault.KeyFault.{KeyFault}
use Rattle.lease_line.specs.declared.fault.KeyFault.TheVariants as faults
use Rattle.lease_line.specs.declared.key.Key.{Key}
use Rattle.lease_line.specs.declared.key.Key.TheVariants.{Mask, Router, Dns, Www, Tftps, Tftp, File, Url, Onie, Update, Siaddr}
use Rattle.lease_line.specs.declared.reply.ReplyKind.{ReplyKind}
use Rattle.lease_line.specs.declared.reply.ReplyKind.TheVariants.{Offer, Ack}

-- what a reply gives: the client's address, the next server of the boot, and the options
pub record Reply : Type 0 where
  pub address : V4
  pub siaddr : V4
  pub options : List DhcpOption

abbrev pub option : ℕ → List ℕ → DhcpOption
option code value = record { code = code; value = value }

-- the message type (RFC 2132, section 9.6)
abbrev pub type_of : ReplyKind → ℕ
type_of Offer = 2
type_of Ack = 5

-- the type, the server, and an hour of lease
abbrev pub first_options : ReplyKind → V4 → List DhcpOption
first_options kind server =
    option 53 (type_of kind ∷ []) ∷ option 54 server.bytes ∷ option 51 (0 ∷ 0 ∷ 0x0E ∷ 0x10 ∷ []) ∷ []

-- without keys
abbrev pub first_reply : ReplyKind → V4 → V4 → Reply
first_reply kind address server = record {
  address = address;
  siaddr = record { bytes = 0 ∷ 0 ∷ 0 ∷ 0 ∷ [] };
  options = first_options kind server;
}

-- from two words, where they are addresses
abbrev pub reply_with : ReplyKind → Option V4 → Option V4 → Result Reply KeyFault
reply_with kind (Some address) (Some server) = Ok (first_reply kind address server)
reply_with kind None server = Err faults.Address
reply_with kind (Some address) None = Err faults.Address

abbrev pub reply_in : ReplyKind → List ℕ → List ℕ → Result Reply KeyFault
reply_in kind address server = reply_with kind (address_in address) (address_in server)

-- how many bytes the value of a code has
abbrev pub size_of : ℕ → List DhcpOption → ℕ
size_of code os = length (unwrap_or (value_of code os) [])

-- a value more of a code, which comes behind those before it, at most 255 bytes together
abbrev pub with_option : Reply → ℕ → List ℕ → Result Reply KeyFault
with_option r code value =
    if nat_lt 255 (size_of code r.options + length value) then Err faults.TextLong
    else Ok (record r { options = added (option code value) r.options })

-- bytes, where addresses were read
abbrev pub with_bytes : Reply → ℕ → Option (List ℕ) → Result Reply KeyFault
with_bytes r code None = Err faults.Address
with_bytes r code (Some bytes) = with_option r code bytes

abbrev pub with_list : Reply → ℕ → List ℕ → Result Reply KeyFault
with_list r code value = with_bytes r code (list_in value)

abbrev pub with_server : Reply → Option V4 → Result Reply KeyFault
with_server r None = Err faults.Address
with_server r (Some address) = Ok (record r { siaddr = address })

abbrev pub with_next : Reply → List ℕ → Result Reply KeyFault
with_next r value = with_server r (address_in value)

-- a block of enterprise 42623, ONIE's, with one sub-option (RFC 3925, section 4)
abbrev pub vendor_block : ℕ → List ℕ → List ℕ
vendor_block code text = 0 ∷ 0 ∷ 0xA6 ∷ 0x7F ∷ (length text + 2) ∷ code ∷ length text ∷ text

-- what a key gives
abbrev pub with_key : Reply → Option Key → List ℕ → Result Reply KeyFault
with_key r None value = Err faults.Unknown
with_key r (Some Mask) value = with_list r 1 value
with_key r (Some Router) value = with_list r 3 value
with_key r (Some Dns) value = with_list r 6 value
with_key r (Some Www) value = with_list r 72 value
with_key r (Some Tftps) value = with_list r 150 value
with_key r (Some Tftp) value = with_option r 66 value
with_key r (Some File) value = with_option r 67 value
with_key r (Some Url) value = with_option r 114 value
with_key r (Some Onie) value = with_option r 125 (vendor_block 1 value)
with_key r (Some Update) value = with_option r 125 (vendor_block 2 value)
with_key r (Some Siaddr) value = with_next r value

-- a word whose first `=` stands at a place
abbrev pub with_parts : Reply → List ℕ → Option ℕ → Result Reply KeyFault
with_parts r word None = Err faults.Unknown
with_parts r word (Some at) = with_key r (key_of (take at word)) (drop (at + 1) word)

-- the reply with a word more, or what is wrong with the word
abbrev pub with_word : Reply → List ℕ → Result Reply KeyFault
with_word r word = with_parts r word (position (λ b. b == 0x3D) word)

-- a call failed so, unless memory ran out
abbrev pub Fails : KeyFault → Result Reply KeyFault → Type 0
Fails faults.Memory read = Unit {0}
Fails fault read = read ≡ Err fault

-- the reply is the one that is said, or the fault is, unless memory ran out
abbrev pub Takes : Result (Unit {0}) KeyFault → Result Reply KeyFault → Reply → Type 0
Takes (Ok done) read new = read ≡ Ok new
Takes (Err fault) read new = Fails fault read

-- what a call answered is what is read, unless memory ran out
abbrev pub Gives : Result Reply KeyFault → Result Reply KeyFault → Type 0
Gives (Ok reply) read = read ≡ Ok reply
Gives (Err fault) read = Fails fault read

-- the message for a client: a reply without flags, all else zero
abbrev pub message_of : Mac → ℕ → Reply → Message
message_of mac xid r = record {
  op = 2;
  xid = xid;
  flags = 0;
  yiaddr = r.address;
  siaddr = r.siaddr;
  chaddr = mac;
  sname = [];
  file = [];
  options = r.options;
}
