-- The options of a message.
use Rattle.std.specs.Prelude.{◌≡◌, ℕ, ◌==◌, not, if◌then◌else◌, List, [], ◌∷◌, ◌++◌, Option, Some, None, filter, unwrap_or}
use Rattle.dhcp_msg.specs.declared.dhcp_option.DhcpOption.{DhcpOption}

-- the value of a code, none where no option has it
abbrev pub value_of : ℕ → List DhcpOption → Option (List ℕ)
value_of code [] = None
value_of code (o ∷ os) = if o.code == code then Some o.value else value_of code os

-- there is one option of each code
abbrev pub AreDistinct : List DhcpOption → Type 0
AreDistinct [] = Unit {0}
AreDistinct (o ∷ os) = (value_of o.code os ≡ None) × AreDistinct os

-- the options of other codes
abbrev pub without : ℕ → List DhcpOption → List DhcpOption
without code os = filter (λ o. not (o.code == code)) os

-- One option of each code, in the order in which the codes first stand: an option that comes again puts its value
-- behind (RFC 2131, section 4.1; RFC 3396).
abbrev pub joined : List DhcpOption → List DhcpOption
joined [] = []
joined (o ∷ os) =
    record { code = o.code; value = o.value ++ unwrap_or (value_of o.code (joined os)) [] } ∷ without o.code (joined os)
