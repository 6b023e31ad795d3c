use Rattle.std.proofs.Common.{List, subst}
use Rattle.std.proofs.lemmas.Result.{on_err_weaker}
use Rattle.gpt_copy.specs.declared.table.Entry.{Entry}
use Rattle.bd_dev.specs.Sink.{Appends, AppendsFront}
use Rattle.bd_dev.proofs.Lines.{OnErr-always}
use Rattle.status_text.specs.StatusText.{entry_lines}
use Rattle.status_text.proofs.Whole.{front_of_boots, front_of_entries, front_of_table, on_ok, whole_text}
use Rattle.status_text.proofs.status.print_status.Goals as goal

pub returns-in_err-write_all-clause-front : goal.returns-in_err-write_all-clause-front
returns-in_err-write_all-clause-front g c =
    let first = g.C.Sink.taken c.args.console.now in
    let second = g.C.Sink.taken c.write_all.new.sink in
    OnErr-always _ (front_of_table c.args.copy c.args.table.now c.args.boots first second second second (subst (AppendsFront first second) c.table_line.ensures c.in_err-write_all.ensures.front))

pub returns-in_err-print_entries-clause-front : goal.returns-in_err-print_entries-clause-front
returns-in_err-print_entries-clause-front g c =
    let first = g.C.Sink.taken c.args.console.now in
    let second = g.C.Sink.taken c.write_all.new.sink in
    let third = g.C.Sink.taken c.print_entries.new.console in
    let entries = subst (λ (es : List Entry). AppendsFront second third (entry_lines 1 es)) c.as_slice.ensures c.in_err-print_entries.ensures.front in
    OnErr-always _ (front_of_entries c.args.copy c.args.table.now c.args.boots first second third third (subst (Appends first second) c.table_line.ensures c.in_ok-write_all.ensures.taken) entries)

pub returns-clause-written : goal.returns-clause-written
returns-clause-written g c =
    let first = g.C.Sink.taken c.args.console.now in
    let second = g.C.Sink.taken c.write_all.new.sink in
    let third = g.C.Sink.taken c.print_entries.new.console in
    let entries = subst (λ (es : List Entry). Appends second third (entry_lines 1 es)) c.as_slice.ensures c.in_ok-print_entries.ensures.written in
    on_ok _ (whole_text c.args.copy c.args.table.now c.args.boots first second third _ (subst (Appends first second) c.table_line.ensures c.in_ok-write_all.ensures.taken) entries) c.print_boots.ensures.written

pub returns-clause-front : goal.returns-clause-front
returns-clause-front g c =
    let first = g.C.Sink.taken c.args.console.now in
    let second = g.C.Sink.taken c.write_all.new.sink in
    let third = g.C.Sink.taken c.print_entries.new.console in
    let entries = subst (λ (es : List Entry). Appends second third (entry_lines 1 es)) c.as_slice.ensures c.in_ok-print_entries.ensures.written in
    on_err_weaker _ (front_of_boots c.args.copy c.args.table.now c.args.boots first second third _ (subst (Appends first second) c.table_line.ensures c.in_ok-write_all.ensures.taken) entries) c.print_boots.ensures.front
