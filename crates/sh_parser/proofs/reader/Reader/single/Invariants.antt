use Rattle.std.proofs.Common.{◌≤◌, ◌++◌, length}
use Rattle.sh_parser.specs.Grammar.{single}
use Rattle.sh_parser.proofs.Steps.{Leads}
use Rattle.sh_parser.proofs.reader.Reader.single.Given as goal

abbrev pub invariant-bytes : goal.invariant-bytes
invariant-bytes l = (length l.self.rest.now ≤ length l.fn.self.rest.now) × Leads single single l.fn.self.rest.now l.self.rest.now (λ ps. l.parts ++ ps)

abbrev pub decreases-bytes : goal.decreases-bytes
decreases-bytes l = length l.self.rest.now
