use Rattle.std.proofs.Common.{ℕ, ◌+◌, List, get_or, ap, subst, ◌∙◌}
use Rattle.bd_dev.specs.Sink.{Appends, AppendsFront}
use Rattle.flow.specs.declared.flows.Flow.{Flow}
use Rattle.trace_text.specs.TraceText.{trace_text}
use Rattle.find_fetch.specs.declared.body_core.BodyCore.{BodyCore}
use Rattle.find_fetch.proofs.Seeking.{found_one, front_none, on_err, one_at, sought_one}
use Rattle.find_fetch.proofs.plain.seek.Goals as goal

pub returns-in_err-run-clause-front : goal.returns-in_err-run-clause-front
returns-in_err-run-clause-front g c =
    on_err c.from_residual-in_err-run.result _ (λ rows told. front_none (g.T.Sink.taken c.args.trace.now) _)

pub returns-in_err-text-clause-front : goal.returns-in_err-text-clause-front
returns-in_err-text-clause-front g c =
    on_err c.from_residual-in_err-text.result _ (λ rows told. front_none (g.T.Sink.taken c.args.trace.now) _)

pub returns-in_default-clause-front : goal.returns-in_default-clause-front
returns-in_default-clause-front g c = λ rows told.
    let flow : Flow BodyCore = record { label = c.in_ok-label.label; core = c.in_ok-core.core } in
    let sought = sought_one c.args.aim.now c.args.host.now (g.N.Net.time c.args.net.now) c.args.round (g.N.Net.opened c.args.net.now) (g.N.Net.rows c.args.net.now)
    c.in_ok-label.label c.in_ok-core.core c.from_mut.result.now c.run.new.flows c.new-sends.result c.run.new.sends _ _ _ flow
    c.in_ok-run.ensures.phase c.from_mut.ensures.value c.in_ok-label.ensures c.in_ok-core.ensures.client c.new-sends.ensures
    (c.run.auto.flows ∙ c.from_mut.ensures.len) rows told in
    let text = c.as_slice-2.ensures ∙ c.in_ok-text.ensures ∙ ap trace_text c.as_slice.ensures ∙ sought.text_is in
    subst (λ (bytes : List ℕ). AppendsFront (g.T.Sink.taken c.args.trace.now) (g.T.Sink.taken c.write_all.new.sink) bytes) text c.in_default.ensures.front

pub result-requires : goal.result-requires
result-requires g c =
    c.in_ok-run.ensures.phase.done 0 _ (one_at c.run.new.flows (record { label = c.in_ok-label.label; core = c.in_ok-core.core }) (c.run.auto.flows ∙ c.from_mut.ensures.len))

pub returns-clause-found : goal.returns-clause-found
returns-clause-found g c = λ rows told.
    let flow : Flow BodyCore = record { label = c.in_ok-label.label; core = c.in_ok-core.core } in
    let sought = sought_one c.args.aim.now c.args.host.now (g.N.Net.time c.args.net.now) c.args.round (g.N.Net.opened c.args.net.now) (g.N.Net.rows c.args.net.now)
    c.in_ok-label.label c.in_ok-core.core c.from_mut.result.now c.run.new.flows c.new-sends.result c.run.new.sends _ _ _ flow
    c.in_ok-run.ensures.phase c.from_mut.ensures.value c.in_ok-label.ensures c.in_ok-core.ensures.client c.new-sends.ensures
    (c.run.auto.flows ∙ c.from_mut.ensures.len) rows told in
    found_one (get_or c.run.new.flows 0 flow).core _ c.result.result sought.found_is c.result.ensures.found

pub returns-clause-passed : goal.returns-clause-passed
returns-clause-passed g c = λ rows told.
    let flow : Flow BodyCore = record { label = c.in_ok-label.label; core = c.in_ok-core.core } in
    let sought = sought_one c.args.aim.now c.args.host.now (g.N.Net.time c.args.net.now) c.args.round (g.N.Net.opened c.args.net.now) (g.N.Net.rows c.args.net.now)
    c.in_ok-label.label c.in_ok-core.core c.from_mut.result.now c.run.new.flows c.new-sends.result c.run.new.sends _ _ _ flow
    c.in_ok-run.ensures.phase c.from_mut.ensures.value c.in_ok-label.ensures c.in_ok-core.ensures.client c.new-sends.ensures
    (c.run.auto.flows ∙ c.from_mut.ensures.len) rows told in
    let text = c.as_slice-2.ensures ∙ c.in_ok-text.ensures ∙ ap trace_text c.as_slice.ensures ∙ sought.text_is in
    let taken = c.in-Ok.ensures.taken in (
      sought.end_is,
      c.in_ok-run.ensures.opened ∙ ap (λ (n : ℕ). g.N.Net.opened c.args.net.now + n) (c.run.auto.flows ∙ c.from_mut.ensures.len),
      subst (λ (bytes : List ℕ). Appends (g.T.Sink.taken c.args.trace.now) (g.T.Sink.taken c.write_all.new.sink) bytes) text taken,
    )
