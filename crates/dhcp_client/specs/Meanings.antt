-- What a message means to a client (RFC 2131, sections 3.1 and 4.4.1).
use Rattle.std.specs.Prelude.{ℕ, Bool, not, ◌&&◌, ◌==◌, if◌then◌else◌, [], ◌∷◌, Option, Some, None}
use Rattle.std.specs.Str.{bytes_eq}
use Rattle.bd_text.specs.declared.mac.Mac.{Mac}
use Rattle.bd_text.specs.declared.v4.V4.{V4}
use Rattle.dhcp_msg.specs.declared.message.Message.{Message}
use Rattle.dhcp_lease.specs.Values.{server_of, type_of}
use Rattle.dhcp_client.specs.declared.meaning.Meaning.{Meaning}
use Rattle.dhcp_client.specs.declared.meaning.Meaning.TheVariants.{Offered, Granted, Refused, Nothing}
use Rattle.dhcp_client.specs.declared.offer.Offer.{Offer}

abbrev pub are_same : V4 → V4 → Bool
are_same one other = bytes_eq one.bytes other.bytes

-- 0.0.0.0 is the place of an address that isn't there
abbrev pub is_address : V4 → Bool
is_address address = not (bytes_eq address.bytes (0 ∷ 0 ∷ 0 ∷ 0 ∷ []))

-- a reply, with the client's number and Ethernet address
abbrev pub is_for : Mac → ℕ → Message → Bool
is_for mac xid m = (m.op == 2 && m.xid == xid) && bytes_eq m.chaddr.bytes mac.bytes

-- of this type from this server, before an offer was taken: an OFFER with an address is one
abbrev pub meaning_of_offer : Message → ℕ → V4 → Meaning
meaning_of_offer m kind server =
    if kind == 2 && is_address m.yiaddr then Offered (record { server = server; address = m.yiaddr }) else Nothing

-- of this type from this server, after this offer was taken: its server's ACK gives the lease, and its NAK none
abbrev pub meaning_of_answer : Offer → ℕ → V4 → Meaning
meaning_of_answer offer kind server =
    if not (are_same server offer.server) then Nothing
    else if kind == 5 then Granted server
    else if kind == 6 then Refused
    else Nothing

-- of this type from this server, where it has both
abbrev pub meaning_by : Option Offer → Message → Option ℕ → Option V4 → Meaning
meaning_by None m (Some kind) (Some server) = meaning_of_offer m kind server
meaning_by (Some offer) m (Some kind) (Some server) = meaning_of_answer offer kind server
meaning_by offer m kind server = Nothing

abbrev pub meaning_of : Mac → ℕ → Option Offer → Message → Meaning
meaning_of mac xid offer m = if is_for mac xid m then meaning_by offer m (type_of m) (server_of m) else Nothing
