-- Where the parts of a message lie, in bytes (RFC 2131, section 2).
use Rattle.std.specs.Prelude.{ℕ, Bool, ◌==◌, if◌then◌else◌, List, [], ◌∷◌, take, drop, slice_index}
use Rattle.std.specs.List.{before_first}
use Rattle.byteorder.specs.Endian.{big_number}
use Rattle.dhcp_msg.specs.declared.message.Message.{Message}
use Rattle.dhcp_msg.specs.declared.overload.Overload.{Overload}
use Rattle.dhcp_msg.specs.declared.dhcp_option.DhcpOption.{DhcpOption}

-- what the options begin with (RFC 2131, section 3)
abbrev pub cookie : List ℕ
cookie = 99 ∷ 130 ∷ 83 ∷ 99 ∷ []

-- so many bytes from a place on
abbrev pub bytes_at : ℕ → ℕ → List ℕ → List ℕ
bytes_at place size bytes = take size (drop place bytes)

abbrev pub sname_field : List ℕ → List ℕ
sname_field bytes = bytes_at 44 64 bytes

abbrev pub file_field : List ℕ → List ℕ
file_field bytes = bytes_at 108 128 bytes

-- behind the cookie
abbrev pub options_field : List ℕ → List ℕ
options_field bytes = drop 240 bytes

-- a text up to its first zero byte
abbrev pub before_zero : List ℕ → List ℕ
before_zero field = before_first (λ b. b == 0) field

-- the text of a field, none where options stand there
abbrev pub text_of : Bool → List ℕ → List ℕ
text_of is_overloaded field = if is_overloaded then [] else before_zero field

-- the message of these bytes with these texts and options
unfoldable pub message_at : List ℕ → List ℕ → List ℕ → List DhcpOption → Message
message_at bytes sname file options = record {
  op = slice_index bytes 0;
  xid = big_number 4 (drop 4 bytes);
  flags = big_number 2 (drop 10 bytes);
  yiaddr = record { bytes = bytes_at 16 4 bytes };
  siaddr = record { bytes = bytes_at 20 4 bytes };
  chaddr = record { bytes = bytes_at 28 6 bytes };
  sname = sname;
  file = file;
  options = options;
}

-- the message of these bytes, where fields may be overloaded
abbrev pub message_with : List ℕ → Overload → List DhcpOption → Message
message_with bytes overload options =
    message_at bytes (text_of overload.sname (sname_field bytes)) (text_of overload.file (file_field bytes)) options
