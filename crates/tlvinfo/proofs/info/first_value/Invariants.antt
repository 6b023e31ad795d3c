use Rattle.std.proofs.Common.{◌≡◌, drop}
use Rattle.tlvinfo.specs.Identity.{value_of}
use Rattle.tlvinfo.specs.View.{fields_of}
use Rattle.tlvinfo.proofs.info.first_value.Given as goal

abbrev pub invariant-loop-entry : goal.invariant-loop-entry
invariant-loop-entry l = value_of l.code (fields_of l.entries) ≡ value_of l.code (fields_of (drop l.entry-index l.entries))
