-- Interfaces, hosts and servers, as labels show them.
use Rattle.std.specs.Prelude.{◌≡◌, ◌⊎◌, ◌&&◌, ◌||◌, nat_le, Bool, IsTrue, ℕ, List, [], ◌∷◌, ◌++◌, length}
use Rattle.std.specs.Fmt.{decimal}
use Rattle.std.specs.List.{list_all}
use Rattle.bd_text.specs.V4.{SpellsV4}
use Rattle.bd_text.specs.V6.{PrintsV6}

-- small letters and digits
abbrev pub is_iface_byte : ℕ → Bool
is_iface_byte b = (nat_le 0x61 b && nat_le b 0x7A) || (nat_le 0x30 b && nat_le b 0x39)

-- the name of an interface: 1 to 15 of them
unfoldable pub is_iface_name : List ℕ → Bool
is_iface_name name = nat_le 1 (length name) && nat_le (length name) 15 && list_all is_iface_byte name

-- nothing, or `%` and the name of an interface (RFC 6874)
abbrev pub IsZone : List ℕ → Type 0
IsZone zone = (zone ≡ []) ⊎ ((name : List ℕ) × (zone ≡ 0x25 ∷ name) × IsTrue (is_iface_name name))

-- the text is an IPv4 address, which has one spelling
abbrev pub IsV4 : List ℕ → Type 0
IsV4 text = (address : List ℕ) × SpellsV4 address text

-- an IPv6 address as it is printed (RFC 5952), and the zone, in brackets
pub record ShowsAddress (address zone shown : List ℕ) : Type 0 where
  pub printed : List ℕ
  pub prints : PrintsV6 address printed
  pub is : shown ≡ 0x5B ∷ (printed ++ (zone ++ 0x5D ∷ []))

-- an IPv6 address so, perhaps with a zone
pub record IsV6 (shown : List ℕ) : Type 0 where
  pub address : List ℕ
  pub zone : List ℕ
  pub zoned : IsZone zone
  pub shows : ShowsAddress address zone shown

-- a host, as labels show it
abbrev pub IsHost : List ℕ → Type 0
IsHost shown = IsV4 shown ⊎ IsV6 shown

-- a host and a port, as labels show them
abbrev pub server_text : List ℕ → ℕ → List ℕ
server_text host port = host ++ 0x3A ∷ decimal port
