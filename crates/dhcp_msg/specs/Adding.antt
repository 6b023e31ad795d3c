-- One option more.
use Rattle.std.specs.Prelude.{ℕ, Bool, ◌==◌, if◌then◌else◌, List, [], ◌∷◌, ◌++◌}
use Rattle.dhcp_msg.specs.declared.dhcp_option.DhcpOption.{DhcpOption}
use Rattle.dhcp_msg.specs.Options.{without}

-- the options with one more: its value behind that of its code, or in the last place where its code is new
abbrev pub added : DhcpOption → List DhcpOption → List DhcpOption
added o [] = o ∷ []
added o (p ∷ os) = if p.code == o.code then record { code = p.code; value = p.value ++ o.value } ∷ os else p ∷ added o os

-- one option alone
abbrev pub one : ℕ → List ℕ → List DhcpOption
one code value = record { code = code; value = value } ∷ []

-- the options with others, one after the other
abbrev pub added_all : List DhcpOption → List DhcpOption → List DhcpOption
added_all [] before = before
added_all (o ∷ os) before = added_all os (added o before)

-- those that count: in a field that is overloaded all but the option overload itself
abbrev pub counted : Bool → List DhcpOption → List DhcpOption
counted is_overloaded os = if is_overloaded then without 52 os else os
