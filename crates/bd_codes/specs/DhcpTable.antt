-- The codes of the DHCP options that are read or written, and what their values are.
use Rattle.std.specs.Prelude.{ℕ, List, [], ◌∷◌}
use Rattle.bd_codes.specs.declared.row.Row.{Row}
use Rattle.bd_codes.specs.declared.row.Kind.{Kind}
use Rattle.bd_codes.specs.declared.row.Kind.TheVariants.{Byte, Text, Raw, Address, Addresses, Seconds, Vendor}

-- a row: the code, what its value is, and the least and the greatest length that one option says, in bytes
abbrev row : ℕ → Kind → ℕ → ℕ → Row
row code kind least greatest = record { code = code; kind = kind; least = least; greatest = greatest }

-- the rows of the table (RFC 2132, but where another is named)
unfoldable pub dhcp_rows : List Row
dhcp_rows =
    -- subnet mask, section 3.3
    row 1 Address 4 4
    -- routers, section 3.5
    ∷ row 3 Addresses 0 252
    -- name servers, section 3.8
    ∷ row 6 Addresses 0 252
    -- requested address, section 9.1
    ∷ row 50 Address 4 4
    -- lease time, section 9.2
    ∷ row 51 Seconds 4 4
    -- overload, section 9.3
    ∷ row 52 Byte 1 1
    -- message type, section 9.6
    ∷ row 53 Byte 1 1
    -- server, section 9.7
    ∷ row 54 Address 4 4
    -- parameter request list, section 9.8
    ∷ row 55 Raw 0 255
    -- vendor class, section 9.13
    ∷ row 60 Text 0 255
    -- TFTP server's name, section 9.4
    ∷ row 66 Text 0 255
    -- boot file's name, section 9.5
    ∷ row 67 Text 0 255
    -- web servers, section 8.17
    ∷ row 72 Addresses 0 252
    -- a URL; this project's reading
    ∷ row 114 Text 0 255
    -- vendor-identifying vendor-specific information, RFC 3925, section 4
    ∷ row 125 Vendor 0 255
    -- TFTP servers, RFC 5859
    ∷ row 150 Addresses 0 252
    ∷ []
