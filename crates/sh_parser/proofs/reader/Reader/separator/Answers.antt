use Rattle.std.proofs.Common.{sym, ◌∙◌}
use Rattle.sh_parser.proofs.Parts.{separates_stray, separated_none, separated_other, separated_one}
use Rattle.sh_parser.proofs.reader.Reader.separator.Goals as goal

pub returns-in-None-clause-separates : goal.returns-in-None-clause-separates
returns-in-None-clause-separates c = separates_stray c.args.depth c.args.self.now.rest.now _ _ c.stray.ensures.kind c.stray.ensures.place (separated_none _ _ c.in-None.ensures)

pub returns-then-is_separator-clause-separates : goal.returns-then-is_separator-clause-separates
returns-then-is_separator-clause-separates c = separated_one _ _ _ _ c.in-Some.ensures (sym c.is_separator.ensures ∙ c.if-is_separator.true)

pub returns-else-is_separator-clause-separates : goal.returns-else-is_separator-clause-separates
returns-else-is_separator-clause-separates c = separates_stray c.args.depth c.args.self.now.rest.now _ _ c.stray-else-is_separator.ensures.kind c.stray-else-is_separator.ensures.place (separated_other _ _ _ _ c.in-Some.ensures (sym c.is_separator.ensures ∙ c.if-is_separator.false))
