-- A field without where it lies in memory.
use Rattle.std.specs.Prelude.{◌≡◌, Option, option_map, Result, Ok, Err}
use Rattle.tlvinfo.specs.declared.decoding.RawField.{RawField}
use Rattle.tlvinfo.specs.declared.fault.TlvKind.{TlvKind}
use Rattle.tlvinfo.specs.TlvInfo.{Field}

abbrev pub field_of : RawField → Field
field_of f = record { code = f.code; value = f.value.now }

-- a step answered what reading gives there
abbrev pub IsAnswer : Result (Option RawField) TlvKind → Result (Option Field) TlvKind → Type 0
IsAnswer (Ok next) read = read ≡ Ok (option_map field_of next)
IsAnswer (Err kind) read = read ≡ Err kind
