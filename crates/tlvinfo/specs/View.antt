-- The fields as lists, without where they lie in memory.
use Rattle.std.specs.Prelude.{List, map}
use Rattle.tlvinfo.specs.declared.info.Entry.{Entry}
use Rattle.tlvinfo.specs.TlvInfo.{Field}

abbrev pub entry_field : Entry → Field
entry_field e = record { code = e.code; value = e.value.items }

abbrev pub fields_of : List Entry → List Field
fields_of es = map entry_field es
