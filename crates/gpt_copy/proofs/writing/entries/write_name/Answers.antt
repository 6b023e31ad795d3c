use Rattle.std.proofs.Common.{◌∙◌, ap}
use Rattle.gpt_copy.specs.Entries.{units_of}
use Rattle.gpt_copy.specs.Writing.{name_spelling}
use Rattle.gpt_copy.proofs.Written.{name_reads}
use Rattle.gpt_copy.proofs.writing.entries.write_name.Goals as goal

pub returns-clause-written : goal.returns-clause-written
unfolding name_spelling
returns-clause-written c = c.write_u16_into.ensures

pub returns-clause-reads : goal.returns-clause-reads
unfolding name_spelling
returns-clause-reads c = ap units_of c.write_u16_into.ensures ∙ name_reads c.args.name.now c.told-name c.fits-name
