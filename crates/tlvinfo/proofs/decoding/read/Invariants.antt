use Rattle.std.proofs.Common.{◌+◌, ◌*◌, ◌/◌, ◌≤◌, length, vec_len, vec_capacity}
use Rattle.tlvinfo.specs.View.{fields_of}
use Rattle.tlvinfo.proofs.DecodeLoop.{Reads}
use Rattle.tlvinfo.proofs.decoding.read.Given as goal

abbrev pub invariant-loop-entries : goal.invariant-loop-entries
invariant-loop-entries l =
    Reads l.bytes l.whole l.cursor.place l.cursor.left (fields_of l.entries.items) × (2 * vec_len l.entries + length l.cursor.left ≤ l.total) × (l.total / 2 ≤ vec_capacity l.entries)

abbrev pub decreases-loop-entries : goal.decreases-loop-entries
decreases-loop-entries l = length l.cursor.left
