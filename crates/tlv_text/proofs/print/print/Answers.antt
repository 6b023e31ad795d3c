use Rattle.tlv_text.proofs.Printable.{spelled-plainly}
use Rattle.tlv_text.proofs.print.print.Goals as goal

pub returns-in-Text-clause-spelled : goal.returns-in-Text-clause-spelled
returns-in-Text-clause-spelled c = spelled-plainly c.args.kind c.args.value.now c.plain.result.bytes c.in-Text.is c.requires.short c.plain.ensures
