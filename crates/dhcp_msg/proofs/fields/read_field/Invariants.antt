use Rattle.std.proofs.Common.{length}
use Rattle.dhcp_msg.proofs.FieldLoop.{Along}
use Rattle.dhcp_msg.proofs.fields.read_field.Given as goal

abbrev pub invariant-loop-code : goal.invariant-loop-code
invariant-loop-code l = Along l.is_overloaded l.place l.field l.fn.options l.cursor.place l.cursor.left l.options

abbrev pub decreases-loop-code : goal.decreases-loop-code
decreases-loop-code l = length l.cursor.left
