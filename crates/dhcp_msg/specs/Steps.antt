-- The steps of reading a field.
use Rattle.std.specs.Prelude.{◌≡◌, ℕ, ◌+◌, ◌≤◌, Bool, ◌==◌, if◌then◌else◌, List, [], ◌∷◌, length, Option, Some, None, Result, Ok, Err}
use Rattle.std.specs.Borrow.{Bor}
use Rattle.bd_bytes.specs.Cursor.{At, passed}
use Rattle.bd_bytes.specs.declared.cursor.Short.{Short}
use Rattle.dhcp_msg.specs.declared.fault.DhcpFault.{DhcpFault}
use Rattle.dhcp_msg.specs.declared.dhcp_option.DhcpOption.{DhcpOption}
use Rattle.dhcp_msg.specs.Adding.{added_all, counted}
use Rattle.dhcp_msg.specs.Reading.{value_at, Fails}

-- the code that stands next, none at an end
abbrev pub code_at : List ℕ → Option ℕ
code_at [] = None
code_at (code ∷ rest) = if code == 255 then None else Some code

-- the value that stands behind a code was taken, or none does
abbrev pub GivesValue : At → Result (Bor (List ℕ)) Short → At → Type 0
GivesValue old (Ok value) new = (value_at old.left ≡ Some value.now) × (1 + length value.now ≤ length old.left) × (new ≡ passed (1 + length value.now) old)
GivesValue old (Err short) new = value_at old.left ≡ None

-- what was read was added to the options before, or the fault is that of reading, unless memory ran out
abbrev pub Reads : Bool → Result (List DhcpOption) DhcpFault → List DhcpOption → Result (Unit {0}) DhcpFault → List DhcpOption → Type 0
Reads is_overloaded read old (Ok done) new = (os : List DhcpOption) × (read ≡ Ok os) × (new ≡ added_all (counted is_overloaded os) old)
Reads is_overloaded read old (Err fault) new = Fails fault read
