use Rattle.std.proofs.Common.{◌≡◌, ◌++◌, subst, ◌∙◌}
use Rattle.std.specs.Prelude.{codes}
use Rattle.std.specs.Fmt.{decimal}
use Rattle.bd_dev.specs.Sink.{Appends, AppendsFront}
use Rattle.bd_dev.proofs.Appending.{Appends-then, AppendsFront-then, AppendsFront-longer}
use Rattle.bd_dev.proofs.Lines.{OnErr-always}
use Rattle.onie_modes.specs.Refusal.{script_kind_text, script_line_of}
use Rattle.onie_modes.proofs.refusal.write_script_line.Goals as goal

pub returns-in_err-write_all-clause-front : goal.returns-in_err-write_all-clause-front
returns-in_err-write_all-clause-front g c =
    let front : AppendsFront (g.C.Sink.taken c.args.console.now) (g.C.Sink.taken c.write_all.new.sink) (script_line_of c.args.line c.args.kind) =
    AppendsFront-longer _ _ (codes "onie: script line ") (decimal c.args.line ++ script_kind_text c.args.kind) c.in_err-write_all.ensures.front in
    OnErr-always _ front

pub returns-in_err-write_all-2-clause-front : goal.returns-in_err-write_all-2-clause-front
returns-in_err-write_all-2-clause-front g c =
    let digits : c.as_bytes.result.now ≡ decimal c.args.line = c.as_bytes.ensures.value ∙ c.format.ensures.text in
    let second : AppendsFront (g.C.Sink.taken c.write_all.new.sink) (g.C.Sink.taken c.write_all-2.new.sink) (decimal c.args.line) =
    subst (AppendsFront (g.C.Sink.taken c.write_all.new.sink) (g.C.Sink.taken c.write_all-2.new.sink)) digits c.in_err-write_all-2.ensures.front in
    let front : AppendsFront (g.C.Sink.taken c.args.console.now) (g.C.Sink.taken c.write_all-2.new.sink) (script_line_of c.args.line c.args.kind) =
    AppendsFront-then _ _ _ (codes "onie: script line ") (decimal c.args.line ++ script_kind_text c.args.kind) c.in_ok-write_all.ensures.taken
    (AppendsFront-longer _ _ (decimal c.args.line) (script_kind_text c.args.kind) second) in
    OnErr-always _ front

pub returns-in_err-write_all-3-clause-front : goal.returns-in_err-write_all-3-clause-front
returns-in_err-write_all-3-clause-front g c =
    let digits : c.as_bytes.result.now ≡ decimal c.args.line = c.as_bytes.ensures.value ∙ c.format.ensures.text in
    let second : Appends (g.C.Sink.taken c.write_all.new.sink) (g.C.Sink.taken c.write_all-2.new.sink) (decimal c.args.line) =
    subst (Appends (g.C.Sink.taken c.write_all.new.sink) (g.C.Sink.taken c.write_all-2.new.sink)) digits c.in_ok-write_all-2.ensures.taken in
    let third : AppendsFront (g.C.Sink.taken c.write_all-2.new.sink) (g.C.Sink.taken c.write_all-3.new.sink) (script_kind_text c.args.kind) =
    subst (AppendsFront (g.C.Sink.taken c.write_all-2.new.sink) (g.C.Sink.taken c.write_all-3.new.sink)) c.script_kind_text.ensures c.in_err-write_all-3.ensures.front in
    let front : AppendsFront (g.C.Sink.taken c.args.console.now) (g.C.Sink.taken c.write_all-3.new.sink) (script_line_of c.args.line c.args.kind) =
    AppendsFront-then _ _ _ (codes "onie: script line ") (decimal c.args.line ++ script_kind_text c.args.kind) c.in_ok-write_all.ensures.taken
    (AppendsFront-then _ _ _ (decimal c.args.line) (script_kind_text c.args.kind) second third) in
    OnErr-always _ front

pub returns-clause-written : goal.returns-clause-written
returns-clause-written g c =
    let digits : c.as_bytes.result.now ≡ decimal c.args.line = c.as_bytes.ensures.value ∙ c.format.ensures.text in
    let second : Appends (g.C.Sink.taken c.write_all.new.sink) (g.C.Sink.taken c.write_all-2.new.sink) (decimal c.args.line) =
    subst (Appends (g.C.Sink.taken c.write_all.new.sink) (g.C.Sink.taken c.write_all-2.new.sink)) digits c.in_ok-write_all-2.ensures.taken in
    let third : Appends (g.C.Sink.taken c.write_all-2.new.sink) (g.C.Sink.taken c.write_all-3.new.sink) (script_kind_text c.args.kind) =
    subst (Appends (g.C.Sink.taken c.write_all-2.new.sink) (g.C.Sink.taken c.write_all-3.new.sink)) c.script_kind_text.ensures c.in_ok-write_all-3.ensures.taken in
    Appends-then _ _ _ (codes "onie: script line ") (decimal c.args.line ++ script_kind_text c.args.kind) c.in_ok-write_all.ensures.taken
    (Appends-then _ _ _ (decimal c.args.line) (script_kind_text c.args.kind) second third)
