use Rattle.std.proofs.Common.{◌≡◌, ◌+◌, ◌≤◌, length, drop}
use Rattle.tlvinfo.specs.TlvInfo.{joined}
use Rattle.tlvinfo.specs.View.{fields_of}
use Rattle.tlvinfo.proofs.lengths.total_with.Given as goal

abbrev pub invariant-loop-entry : goal.invariant-loop-entry
invariant-loop-entry l =
    (l.sum + length (joined (fields_of (drop l.entry-index l.entries))) ≡ l.total + length (joined (fields_of l.entries))) × (l.sum ≤ 2037)
