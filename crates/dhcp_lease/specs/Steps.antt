-- What a search for a sub-option found.
use Rattle.std.specs.Prelude.{◌≡◌, ℕ, List, Option, Some, None, Result, Ok, Err}
use Rattle.std.specs.Borrow.{Bor}
use Rattle.std.specs.Option.{option_copied}
use Rattle.bd_bytes.specs.declared.cursor.Short.{Short}
use Rattle.dhcp_msg.specs.declared.dhcp_option.DhcpOption.{DhcpOption}
use Rattle.dhcp_msg.specs.Options.{value_of}

-- the first value of the code in these sub-options, where they could be read
abbrev pub Finds : ℕ → Option (List DhcpOption) → Result (Option (Bor (List ℕ))) Short → Type 0
Finds code read (Ok found) = (os : List DhcpOption) × (read ≡ Some os) × (option_copied found ≡ value_of code os)
Finds code read (Err short) = read ≡ None
