-- Reading from the left: the message, or the first fault. `IsMessage` says which bytes are a message; this says which
-- fault is named where they are none.
use Rattle.std.specs.Prelude.{◌≡◌, ℕ, zero, suc, Bool, true, false, ◌+◌, ◌==◌, not, nat_lt, nat_eq, if◌then◌else◌, List, [], ◌∷◌, ◌++◌, length, take, drop, Option, Some, None, Result, Ok, Err}
use Rattle.std.specs.List.{starts_with}
use Rattle.dhcp_msg.specs.declared.fault.DhcpFault.{DhcpFault}
use Rattle.dhcp_msg.specs.declared.fault.DhcpFault.TheVariants as faults
use Rattle.dhcp_msg.specs.declared.message.Message.{Message}
use Rattle.dhcp_msg.specs.declared.overload.Overload.{Overload}
use Rattle.dhcp_msg.specs.declared.dhcp_option.DhcpOption.{DhcpOption}
use Rattle.dhcp_msg.specs.Layout.{cookie, sname_field, file_field, options_field, message_with}
use Rattle.dhcp_msg.specs.Options.{value_of, without, joined}

-- the next step, unless this one found a fault
infixl 10 ◌>>=◌
abbrev pub ◌>>=◌ : {A B : Type 0} → Result A DhcpFault → (A → Result B DhcpFault) → Result B DhcpFault
(Ok x) >>= f = f x
(Err fault) >>= f = Err fault

-- the fields of fixed size and the cookie are there
unfoldable pub front_of : List ℕ → Result (Unit {0}) DhcpFault
front_of bytes =
    if nat_lt (length bytes) 240 then Err faults.Short
    else if not (starts_with nat_eq (drop 236 bytes) cookie) then Err faults.NoCookie
    else Ok tt

-- the value behind a code: its length and so many bytes, none where they pass the end
abbrev pub value_at : List ℕ → Option (List ℕ)
value_at [] = None
value_at (size ∷ rest) = if nat_lt (length rest) size then None else Some (take size rest)

-- the option whose code stands at a place of the message, before this value
abbrev pub option_of : ℕ → ℕ → Option (List ℕ) → Result DhcpOption DhcpFault
option_of place code None = Err (faults.Cut place)
option_of place code (Some value) = Ok (record { code = code; value = value })

-- The rest of a field, whose first byte is that at a place of the message. Each pad and each option has a byte, so as
-- many steps as bytes suffice.
unfoldable pub options_at : ℕ → ℕ → List ℕ → Result (List DhcpOption) DhcpFault
options_at steps place [] = Ok []
options_at zero place (code ∷ rest) = Ok []
options_at (suc steps) place (code ∷ rest) =
    if code == 255 then Ok []
    else if code == 0 then options_at steps (place + 1) rest
    else (option_of place code (value_at rest) >>= λ o.
    options_at steps (place + (2 + length o.value)) (drop (1 + length o.value) rest) >>= λ os. Ok (o ∷ os))

-- the options of a field, whose first byte is that at a place of the message
unfoldable pub options_in : ℕ → List ℕ → Result (List DhcpOption) DhcpFault
options_in place field = options_at (length field) place field

-- what the option overload says (RFC 2132, section 9.3)
abbrev pub overload_of : Option (List ℕ) → Result Overload DhcpFault
overload_of None = Ok (record { file = false; sname = false })
overload_of (Some []) = Err (faults.Overload 0)
overload_of (Some (b ∷ [])) =
    if b == 1 then Ok (record { file = true; sname = false })
    else if b == 2 then Ok (record { file = false; sname = true })
    else if b == 3 then Ok (record { file = true; sname = true })
    else Err (faults.Overload b)
overload_of (Some (b ∷ c ∷ bs)) = Err (faults.Overload b)

-- the options of a field that may be overloaded, where the option overload itself counts for nothing
unfoldable pub overloaded_in : Bool → ℕ → List ℕ → Result (List DhcpOption) DhcpFault
overloaded_in is_overloaded place field =
    if is_overloaded then (options_in place field >>= λ os. Ok (without 52 os)) else Ok []

-- the message, or the first fault (RFC 2131, section 4.1: the options field, then `file`, then `sname`)
unfoldable pub reading : List ℕ → Result Message DhcpFault
reading bytes =
    front_of bytes >>= λ _.
    options_in 240 (options_field bytes) >>= λ own.
    overload_of (value_of 52 (joined own)) >>= λ overload.
    overloaded_in overload.file 108 (file_field bytes) >>= λ in_file.
    overloaded_in overload.sname 44 (sname_field bytes) >>= λ in_sname.
    Ok (message_with bytes overload (joined (own ++ in_file ++ in_sname)))

-- a call failed as reading does, unless memory ran out
abbrev pub Fails : {A : Type 0} → DhcpFault → Result A DhcpFault → Type 0
Fails faults.Memory read = Unit {0}
Fails fault read = read ≡ Err fault

-- what a call answered is what reading gives, unless memory ran out
abbrev pub Gives : {A : Type 0} → Result A DhcpFault → Result A DhcpFault → Type 0
Gives (Ok x) read = read ≡ Ok x
Gives (Err fault) read = Fails fault read
