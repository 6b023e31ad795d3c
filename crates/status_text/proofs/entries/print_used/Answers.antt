use Rattle.std.proofs.Common.{List, ℕ, sym, subst}
use Rattle.bd_dev.specs.Sink.{Appends, AppendsFront}
use Rattle.bd_dev.proofs.Appending.{Appends-same}
use Rattle.bd_dev.proofs.Lines.{OnErr-always}
use Rattle.status_text.proofs.Texts.{line_of_unused, line_of_used}
use Rattle.status_text.proofs.entries.print_used.Goals as goal

pub returns-in_err-print_entry-clause-front : goal.returns-in_err-print_entry-clause-front
returns-in_err-print_entry-clause-front g c =
    let line = line_of_used c.args.number c.args.entry.now (c.is_used.ensures.0 c.if-is_used.true) in
    OnErr-always _ (subst (λ (l : List ℕ). AppendsFront (g.C.Sink.taken c.args.console.now) (g.C.Sink.taken c.print_entry.new.console) l) (sym line) c.in_err-print_entry.ensures.front)

pub returns-in_ok-print_entry-clause-written : goal.returns-in_ok-print_entry-clause-written
returns-in_ok-print_entry-clause-written g c =
    let line = line_of_used c.args.number c.args.entry.now (c.is_used.ensures.0 c.if-is_used.true) in
    subst (λ (l : List ℕ). Appends (g.C.Sink.taken c.args.console.now) (g.C.Sink.taken c.print_entry.new.console) l) (sym line) c.in_ok-print_entry.ensures.written

pub returns-else-is_used-clause-written : goal.returns-else-is_used-clause-written
returns-else-is_used-clause-written g c =
    let fails = c.if-is_used.false in
    let line = line_of_unused c.args.number c.args.entry.now (λ used. let holds = c.is_used.ensures.1 used in cc) in
    subst (λ (l : List ℕ). Appends (g.C.Sink.taken c.args.console.now) (g.C.Sink.taken c.args.console.now) l) (sym line) (Appends-same (g.C.Sink.taken c.args.console.now))
