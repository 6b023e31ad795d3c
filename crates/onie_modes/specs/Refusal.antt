-- The lines of refusals.
use Rattle.std.specs.Prelude.{Bool, true, false, ℕ, List, [], ◌++◌, codes}
use Rattle.std.specs.Fmt.{decimal}
use Rattle.net_script.specs.declared.fault.ScriptKind.{ScriptKind}
use Rattle.net_script.specs.declared.fault.ScriptKind.TheVariants as scripts
use Rattle.soundness.specs.declared.judging.SoundKind.{SoundKind}
use Rattle.soundness.specs.declared.judging.SoundKind.TheVariants as sounds
use Rattle.tlvinfo.specs.declared.fault.TlvKind.{TlvKind}
use Rattle.tlvinfo.specs.declared.fault.TlvKind.TheVariants as kinds
use Rattle.tlvinfo.specs.declared.fault.IdentFault.{IdentFault}
use Rattle.tlvinfo.specs.declared.fault.IdentFault.TheVariants as idents
use Rattle.onie_modes.specs.declared.exit.EepromKind.TheVariants as eeproms
use Rattle.onie_modes.specs.declared.exit.RefusedKind.{RefusedKind}
use Rattle.onie_modes.specs.declared.exit.RefusedKind.TheVariants as refusals
use Rattle.onie_modes.specs.declared.exit.Status.{Status}
use Rattle.onie_modes.specs.declared.exit.Status.TheVariants as statuses

-- the line for bytes that are no TlvInfo data
abbrev pub tlv_line_of : TlvKind → List ℕ
tlv_line_of kinds.NotTlv = codes "onie: eeprom: not tlv\n"
tlv_line_of (kinds.Version version) = codes "onie: eeprom: version\n"
tlv_line_of (kinds.Length total given) = codes "onie: eeprom: length\n"
tlv_line_of (kinds.Cut at) = codes "onie: eeprom: cut\n"
tlv_line_of (kinds.BadLength code size) = codes "onie: eeprom: bad length\n"
tlv_line_of (kinds.Repeated code) = codes "onie: eeprom: repeated\n"
tlv_line_of (kinds.AfterCrc at) = codes "onie: eeprom: after crc\n"
tlv_line_of kinds.NoCrc = codes "onie: eeprom: no crc\n"
tlv_line_of (kinds.Crc kept computed) = codes "onie: eeprom: crc\n"

-- the line for fields that identify no board
abbrev pub ident_line_of : IdentFault → List ℕ
ident_line_of idents.NoPlatform = codes "onie: eeprom: no platform\n"
ident_line_of idents.Platform = codes "onie: eeprom: platform\n"
ident_line_of idents.NoMac = codes "onie: eeprom: no mac\n"

-- the line for a change that is refused
abbrev pub refused_line_of : RefusedKind → List ℕ
refused_line_of refusals.BadName = codes "onie: refused: bad name\n"
refused_line_of refusals.BadText = codes "onie: refused: bad text\n"
refused_line_of refusals.VarsFull = codes "onie: refused: variables full\n"
refused_line_of refusals.SeqEnd = codes "onie: refused: sequence end\n"
refused_line_of refusals.BadCode = codes "onie: refused: bad code\n"
refused_line_of refusals.BadValue = codes "onie: refused: bad value\n"
refused_line_of refusals.TooLong = codes "onie: refused: too long\n"

-- the line for a board that is not sound
abbrev pub unsound_line_of : SoundKind → List ℕ
unsound_line_of sounds.NoTable = codes "onie: not sound: no table\n"
unsound_line_of sounds.Entries = codes "onie: not sound: entries\n"
unsound_line_of sounds.NoOnie = codes "onie: not sound: no onie\n"
unsound_line_of sounds.TwoOnie = codes "onie: not sound: two onie\n"
unsound_line_of sounds.NoImage = codes "onie: not sound: no image\n"
unsound_line_of sounds.NoVars = codes "onie: not sound: no variables\n"

-- what is wrong with a line of a script, and the line's end
abbrev pub script_kind_text : ScriptKind → List ℕ
script_kind_text scripts.TooLong = codes ": too long\n"
script_kind_text scripts.Unknown = codes ": unknown\n"
script_kind_text scripts.Missing = codes ": missing\n"
script_kind_text scripts.Extra = codes ": extra\n"
script_kind_text scripts.Number = codes ": number\n"
script_kind_text scripts.Hex = codes ": hex\n"
script_kind_text scripts.Address = codes ": address\n"
script_kind_text scripts.Iface = codes ": iface\n"
script_kind_text scripts.NoFlow = codes ": no flow\n"
script_kind_text scripts.NoBody = codes ": no body\n"

-- the line for a script that is none
abbrev pub script_line_of : ℕ → ScriptKind → List ℕ
script_line_of line kind = codes "onie: script line " ++ decimal line ++ script_kind_text kind

-- the line of a status, empty where it has none
abbrev pub refusal_line_of : Status → List ℕ
refusal_line_of (statuses.Done outcome) = []
refusal_line_of statuses.SinkFault = []
refusal_line_of statuses.Memory = []
refusal_line_of statuses.Usage = codes "onie: usage\n"
refusal_line_of (statuses.NotSound kind) = unsound_line_of kind
refusal_line_of (statuses.BadEeprom (eeproms.Tlv kind)) = tlv_line_of kind
refusal_line_of (statuses.BadEeprom (eeproms.Ident fault)) = ident_line_of fault
refusal_line_of (statuses.BadScript line kind) = script_line_of line kind
refusal_line_of statuses.PlantFault = codes "onie: plant fault\n"
refusal_line_of statuses.EepromFault = codes "onie: eeprom fault\n"
refusal_line_of statuses.MediaFault = codes "onie: media fault\n"
refusal_line_of statuses.SourceFault = codes "onie: source fault\n"
refusal_line_of (statuses.Refused kind) = refused_line_of kind

-- the line of the status has a number in it
abbrev pub has_number : Status → Bool
has_number (statuses.BadScript line kind) = true
has_number status = false
