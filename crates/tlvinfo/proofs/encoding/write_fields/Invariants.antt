use Rattle.std.proofs.Common.{◌≡◌, length, take}
use Rattle.tlvinfo.specs.TlvInfo.{joined}
use Rattle.tlvinfo.specs.Encoding.{overwritten}
use Rattle.tlvinfo.specs.View.{fields_of}
use Rattle.tlvinfo.proofs.encoding.write_fields.Given as goal

abbrev pub invariant-loop-entry : goal.invariant-loop-entry
invariant-loop-entry l =
    (l.at ≡ length (joined (fields_of (take l.entry-index l.entries)))) × (l.out ≡ overwritten (joined (fields_of (take l.entry-index l.entries))) l.initial.out)
