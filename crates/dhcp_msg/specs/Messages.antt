-- Which bytes are a DHCP message (RFC 2131, section 2), and which messages are written.
use Rattle.std.specs.Prelude.{◌≡◌, ◌≢◌, ℕ, ◌≤◌, Bool, true, false, List, [], ◌∷◌, ◌++◌, length, Option, Some, None}
use Rattle.std.specs.List.{AllByRecursion}
use Rattle.dhcp_msg.specs.declared.message.Message.{Message}
use Rattle.dhcp_msg.specs.declared.overload.Overload.{Overload}
use Rattle.dhcp_msg.specs.declared.dhcp_option.DhcpOption.{DhcpOption}
use Rattle.dhcp_msg.specs.Fields.{Holds, IsOption}
use Rattle.dhcp_msg.specs.Layout.{cookie, bytes_at, sname_field, file_field, options_field, message_with}
use Rattle.dhcp_msg.specs.Options.{value_of, without, joined}

-- The value of the option overload that says which fields hold options too: `file`, `sname` or both (RFC 2132, section
-- 9.3). None says neither.
abbrev pub overload_value : Bool → Bool → Option (List ℕ)
overload_value false false = None
overload_value true false = Some (1 ∷ [])
overload_value false true = Some (2 ∷ [])
overload_value true true = Some (3 ∷ [])

-- A field holds these options where it is overloaded, and none where it isn't. The option overload counts for nothing
-- there.
abbrev pub HoldsAlso : Bool → List ℕ → List DhcpOption → Type 0
HoldsAlso false field os = os ≡ []
HoldsAlso true field os = (all : List DhcpOption) × Holds field all × (os ≡ without 52 all)

-- the bytes are this message
pub record IsMessage (bytes : List ℕ) (message : Message) : Type 0 where
  pub own : List DhcpOption
  pub in_file : List DhcpOption
  pub in_sname : List DhcpOption
  pub overload : Overload
  pub long : 240 ≤ length bytes
  pub marked : bytes_at 236 4 bytes ≡ cookie
  pub options : Holds (options_field bytes) own
  pub overloads : value_of 52 (joined own) ≡ overload_value overload.file overload.sname
  pub file : HoldsAlso overload.file (file_field bytes) in_file
  pub sname : HoldsAlso overload.sname (sname_field bytes) in_sname
  pub whole : message ≡ message_with bytes overload (joined (own ++ in_file ++ in_sname))

-- an option that is written: of at most 255 bytes, and no option overload
pub record IsWritable (o : DhcpOption) : Type 0 where
  pub code : IsOption o
  pub no_overload : o.code ≢ 52
  pub short : length o.value ≤ 255

-- a text that is written: without zeros, and no longer than its field
pub record FitsField (size : ℕ) (text : List ℕ) : Type 0 where
  pub short : length text ≤ size
  pub no_zero : AllByRecursion (λ b. b ≢ 0) text

-- a message that is written
pub record CanBeWritten (message : Message) : Type 0 where
  pub sname : FitsField 64 message.sname
  pub file : FitsField 128 message.file
  pub options : AllByRecursion IsWritable message.options
