use Rattle.std.proofs.Common.{length}
use Rattle.tlv_text.proofs.Widths.{HasWidth-allowed}
use Rattle.tlv_text.proofs.print.value_text.Goals as goal

pub print-requires-clause-width : goal.print-requires-clause-width
print-requires-clause-width c = rw c.kind_of.ensures (HasWidth-allowed c.args.code (length c.args.value.now) c.requires.allowed)
