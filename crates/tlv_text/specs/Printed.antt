-- The text that is printed for a value, by the kind of its code.
use Rattle.std.specs.Prelude.{ℕ, if◌then◌else◌, List, map}
use Rattle.std.specs.Fmt.{decimal}
use Rattle.byteorder.specs.Endian.{big_number}
use Rattle.hex.specs.Hex.{encode_lower}
use Rattle.bd_codes.specs.declared.row.Kind.{Kind}
use Rattle.bd_codes.specs.declared.row.Kind.TheVariants.{Text, Mac, Date, Byte, Word, Letters}
use Rattle.bd_text.specs.Mac.{mac_text}
use Rattle.tlv_text.specs.Values.{is_printable}

-- a byte as it stands in a text: `?` for one that cannot be printed
abbrev pub shown : ℕ → ℕ
shown byte = if is_printable byte then byte else 63

-- what is printed of a value of the kind
abbrev pub printed_value : Kind → List ℕ → List ℕ
printed_value Text value = map shown value
printed_value Date value = map shown value
printed_value Letters value = map shown value
printed_value Mac value = mac_text value
printed_value Byte value = decimal (big_number 1 value)
printed_value Word value = decimal (big_number 2 value)
printed_value _ value = encode_lower value
