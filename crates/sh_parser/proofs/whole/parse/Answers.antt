use Rattle.std.proofs.Common.{◌≡◌, sym, ◌∙◌, ap, inl}
use Rattle.sh_parser.specs.Laws.{line_at}
use Rattle.sh_parser.proofs.Once.{not_both, one_fault}
use Rattle.sh_parser.proofs.Parts.{fault_is}
use Rattle.sh_parser.proofs.whole.parse.Goals as goal

pub returns-in-Ok-clause-exact : goal.returns-in-Ok-clause-exact
returns-in-Ok-clause-exact c = λ line kind f. not_both _ f.0 _ kind c.in-Ok.ensures.is f.1

pub returns-in-Err-Fault-clause-only : goal.returns-in-Err-Fault-clause-only
returns-in-Err-Fault-clause-only c = λ tree p. absurd (not_both _ _ tree _ p (fault_is c.args.text.now c.whole.new.self.rest.now _ _ c.in-Err-Fault.field-0-is c.in-Err-Fault.ensures.is))

pub returns-in-Err-Fault-clause-exact : goal.returns-in-Err-Fault-clause-exact
returns-in-Err-Fault-clause-exact c = λ line kind f.
    let e = one_fault _ _ _ _ _ (fault_is c.args.text.now c.whole.new.self.rest.now _ _ c.in-Err-Fault.field-0-is c.in-Err-Fault.ensures.is) f.1 in
    let same : c.line_of-line.result ≡ line = c.line_of-line.ensures ∙ ap (line_at c.args.text.now) e.1 ∙ sym f.2 in
    let kinds = e.0 in
    inl cc
