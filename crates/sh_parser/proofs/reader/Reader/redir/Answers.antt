use Rattle.std.proofs.Common.{sym, ◌∙◌}
use Rattle.sh_parser.proofs.Steps.{strayed}
use Rattle.sh_parser.proofs.CommandRules.{redir_to, redir_forbidden, redir_unfinished, redir_stopped}
use Rattle.sh_parser.proofs.reader.Reader.redir.Goals as goal

pub returns-in-To-clause-reads : goal.returns-in-To-clause-reads
returns-in-To-clause-reads c = record { is = rw c.direct-directed.ensures.rest (redir_to _ _ _ (sym c.direct-directed.ensures.direction ∙ c.in-To.is)) }

pub returns-in-LeftOut-clause-reads : goal.returns-in-LeftOut-clause-reads
returns-in-LeftOut-clause-reads c = record { is = redir_forbidden _ _ (sym c.direct-directed.ensures.direction ∙ c.in-LeftOut.is) }

pub returns-in-Open-clause-reads : goal.returns-in-Open-clause-reads
returns-in-Open-clause-reads c = record { is = rw c.direct-directed.ensures.rest (redir_unfinished _ _ (sym c.direct-directed.ensures.direction ∙ c.in-Open.is)) }

pub returns-in-Stopped-clause-reads : goal.returns-in-Stopped-clause-reads
returns-in-Stopped-clause-reads c = strayed c.direct-directed.result.rest.now c.args.depth c.stray.ensures.kind c.stray.ensures.place (rw c.direct-directed.ensures.rest (redir_stopped _ _ (sym c.direct-directed.ensures.direction ∙ c.in-Stopped.is)))
