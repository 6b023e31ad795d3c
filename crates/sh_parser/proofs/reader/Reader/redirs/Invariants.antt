use Rattle.std.proofs.Common.{◌≤◌, ◌++◌, length}
use Rattle.sh_parser.specs.Grammar.{redirs}
use Rattle.sh_parser.proofs.Steps.{Leads}
use Rattle.sh_parser.proofs.reader.Reader.redirs.Given as goal

abbrev pub invariant-redirs : goal.invariant-redirs
invariant-redirs l = (length l.self.rest.now ≤ length l.fn.self.rest.now) × Leads (redirs l.depth) (redirs l.depth) l.fn.self.rest.now l.self.rest.now (λ xs. l.redirs ++ xs)

abbrev pub decreases-redirs : goal.decreases-redirs
decreases-redirs l = length l.self.rest.now
