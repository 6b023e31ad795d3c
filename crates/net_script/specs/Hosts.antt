-- Hosts and servers in a line, and how labels show them.
use Rattle.std.specs.Prelude.{◌≡◌, ◌≢◌, ◌⊎◌, ◌+◌, ◌<◌, ◌==◌, Bool, ℕ, List, [], ◌∷◌, ◌++◌, length, take, drop, slice_index}
use Rattle.std.specs.List.{before_first, position_or_len}
use Rattle.bd_text.specs.V6.{SpellsV6}
use Rattle.flow_labels.specs.Hosts.{IsV4, IsZone, ShowsAddress, server_text}
use Rattle.net_script.specs.Numbers.{IsNumber, SpellsNumber}
use Rattle.net_script.specs.Tests.{Unless}
use Rattle.net_script.specs.declared.fault.ScriptKind.{ScriptKind}
use Rattle.net_script.specs.declared.fault.ScriptKind.TheVariants.{Address, Number}

abbrev pub is_percent : ℕ → Bool
is_percent b = b == 0x25

-- what stands from the first `%` on
abbrev pub zone_of : List ℕ → List ℕ
zone_of inner = drop (position_or_len is_percent inner) inner

-- an IPv6 address, perhaps with a zone
pub record SpellsZoned (address zone inner : List ℕ) : Type 0 where
  pub spelled : SpellsV6 address (before_first is_percent inner)
  pub zone_is : zone ≡ zone_of inner
  pub zoned : IsZone zone

-- an address in brackets, perhaps with a zone, and the same with the address as it is printed
pub record ShowsV6 (host shown : List ℕ) : Type 0 where
  pub inner : List ℕ
  pub address : List ℕ
  pub zone : List ℕ
  pub host_is : host ≡ 0x5B ∷ (inner ++ 0x5D ∷ [])
  pub spelled : SpellsZoned address zone inner
  pub shows : ShowsAddress address zone shown

-- How labels show a host: an IPv4 address, which has one spelling, as it stands, and an IPv6 address in brackets as it
-- is printed, with its zone.
abbrev pub ShowsHost : List ℕ → List ℕ → Type 0
ShowsHost host shown = (IsV4 host × (shown ≡ host)) ⊎ (¬ IsV4 host × ShowsV6 host shown)

-- a host and what stands behind the last colon
pub record IsParted (server host port : List ℕ) : Type 0 where
  pub at : ℕ
  pub within : at < length server
  pub here : slice_index server at ≡ 0x3A
  pub last : (k : ℕ) → at < k → k < length server → slice_index server k ≢ 0x3A
  pub host_is : host ≡ take at server
  pub port_is : port ≡ drop (at + 1) server

-- how labels show a server
pub record ShowsServer (server shown : List ℕ) : Type 0 where
  pub host : List ℕ
  pub port : List ℕ
  pub shown_host : List ℕ
  pub parted : IsParted server host port
  pub shows : ShowsHost host shown_host
  pub number : ℕ
  pub spelled : SpellsNumber 1 65535 number port
  pub shown_is : shown ≡ server_text shown_host number

-- the text is a server
abbrev pub IsServer : List ℕ → Type 0
IsServer server = (shown : List ℕ) × ShowsServer server shown

-- there is a host before the last colon
pub record HasHost (server : List ℕ) : Type 0 where
  pub host : List ℕ
  pub port : List ℕ
  pub shown : List ℕ
  pub parted : IsParted server host port
  pub shows : ShowsHost host shown

-- there is a port behind the last colon
pub record HasPort (server : List ℕ) : Type 0 where
  pub host : List ℕ
  pub port : List ℕ
  pub parted : IsParted server host port
  pub number : IsNumber 1 65535 port

-- what is wrong with a server
abbrev pub IsServerFault : List ℕ → ScriptKind → Type 0
IsServerFault server kind =
    Unless (HasHost server) (kind ≡ Address) (Unless (HasPort server) (kind ≡ Number) ⊥)
