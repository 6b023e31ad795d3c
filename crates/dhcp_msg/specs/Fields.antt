-- Which options a field of a message holds (RFC 2132, section 2).
use Rattle.std.specs.Prelude.{◌≢◌, ℕ, List, [], ◌∷◌, ◌++◌, length}
use Rattle.dhcp_msg.specs.declared.dhcp_option.DhcpOption.{DhcpOption}

-- an option's bytes: its code, the length of its value, and the value
abbrev pub option_bytes : DhcpOption → List ℕ
option_bytes o = o.code ∷ length o.value ∷ o.value

-- a code that is neither the pad's nor the end's (RFC 2132, sections 3.1 and 3.2)
pub record IsOption (o : DhcpOption) : Type 0 where
  pub no_pad : o.code ≢ 0
  pub no_end : o.code ≢ 255

-- The field holds these options: pads and options up to an end, what follows which means nothing, or up to the
-- field's own end.
pub data Holds : List ℕ → List DhcpOption → Type 0 where
  nothing : Holds [] []
  end : (rest : List ℕ) → Holds (255 ∷ rest) []
  pad : (rest : List ℕ) (os : List DhcpOption) → Holds rest os → Holds (0 ∷ rest) os
  option : (o : DhcpOption) (rest : List ℕ) (os : List DhcpOption) → IsOption o → Holds rest os
      → Holds (option_bytes o ++ rest) (o ∷ os)
