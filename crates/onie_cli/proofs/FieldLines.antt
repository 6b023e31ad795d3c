-- A line of a field ends.
use Rattle.std.proofs.Common.{◌++◌, refl}
use Rattle.std.specs.Prelude.{codes}
use Rattle.onie_modes.proofs.WholeLines.{EndsLine}
use Rattle.tlv_text.specs.Printed.{printed_value}
use Rattle.tlv_text.specs.Values.{kind_of}
use Rattle.tlvinfo.specs.TlvInfo.{Field}
use Rattle.onie_cli.specs.Eeprom.{field_line, two_digits}

pub field_ends : (f : Field) → EndsLine (field_line f)
field_ends f = (codes "0x" ++ two_digits f.code ++ codes " " ++ printed_value (kind_of f.code) f.value, refl)
