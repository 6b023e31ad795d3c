-- Addresses in words.
use Rattle.std.specs.Prelude.{ℕ, ◌==◌, List, [], ◌∷◌, ◌++◌, Option, Some, option_map}
use Rattle.std.specs.List.{slice_split}
use Rattle.std.specs.Net.Reader.{read_ipv4, whole_value}
use Rattle.std.specs.Option.{option_and_then}
use Rattle.bd_text.specs.declared.v4.V4.{V4}

-- the address that a text is, if it is one (RFC 3986, section 3.2.2, IPv4address)
unfoldable pub address_in : List ℕ → Option V4
address_in text = option_map (λ octets. record { bytes = octets }) (whole_value (read_ipv4 text))

-- the bytes of all, where each text is an address
abbrev pub all_addresses : List (List ℕ) → Option (List ℕ)
all_addresses [] = Some []
all_addresses (text ∷ texts) =
    option_and_then (λ address. option_map (λ more. address.bytes ++ more) (all_addresses texts)) (address_in text)

-- addresses with a comma between each two
abbrev pub list_in : List ℕ → Option (List ℕ)
list_in text = all_addresses (slice_split (λ b. b == 0x2C) text)
