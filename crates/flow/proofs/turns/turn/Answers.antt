use Rattle.std.proofs.Common.{arith, subst, sym, ap, inl, inr, ◌∙◌, ◌≡◌, ◌+◌, ◌-◌, List, Some, get_or, length, set}
use Rattle.std.specs.Prelude.{slice_index}
use Rattle.std.proofs.lemmas.List.{length-set}
use Rattle.std.proofs.lemmas.Option.{slice_get-get_or}
use Rattle.bd_dev.specs.Rows.{Row}
use Rattle.bd_dev.specs.Net.{GivesTo, IsNextOf, OpenFlow}
use Rattle.flow.specs.Core.{IsEarly}
use Rattle.flow.specs.Own.{unless_flooded}
use Rattle.flow.specs.Running.{GoesOn, TurnsOn}
use Rattle.flow.proofs.Calls.{came_place}
use Rattle.flow.proofs.Turning.{answers_came, answers_quiet, came_facts, came_turns, due_facts, earliest_came, earliest_quiet, quiet_turns}
use Rattle.flow.proofs.turns.turn.Goals as goal

pub overflow_add-opening : goal.overflow_add-opening
overflow_add-opening g c =
    let d = due_facts g.C.Core.acts g.C.Core.HasBegun c.args.opening.start c.args.opening.round c.args.opening.first c.args.place c.args.due c.args.flows.now c.args.counts.now (g.N.Net.open_flow c.args.net.now) (g.N.Net.time c.args.net.now) c.args.sends.now.items c.requires.progress c.requires.due in
    let limit = d.1 in omega (arith, limit)

pub next-requires : goal.next-requires
next-requires g c =
    let d = due_facts g.C.Core.acts g.C.Core.HasBegun c.args.opening.start c.args.opening.round c.args.opening.first c.args.place c.args.due c.args.flows.now c.args.counts.now (g.N.Net.open_flow c.args.net.now) (g.N.Net.time c.args.net.now) c.args.sends.now.items c.requires.progress c.requires.due in
    d.0

pub pass_deadline-requires-clause-begun : goal.pass_deadline-requires-clause-begun
pass_deadline-requires-clause-begun g c =
    let d = due_facts g.C.Core.acts g.C.Core.HasBegun c.args.opening.start c.args.opening.round c.args.opening.first c.args.place c.args.due c.args.flows.now c.args.counts.now (g.N.Net.open_flow c.args.net.now) (g.N.Net.time c.args.net.now) c.args.sends.now.items c.requires.progress c.requires.due in
    let here = slice_get-get_or c.args.flows.now c.args.place c.index-flows-place.result c.requires.due.within in
    (d.2 _ here).0

pub pass_deadline-requires-clause-due : goal.pass_deadline-requires-clause-due
pass_deadline-requires-clause-due g c =
    let d = due_facts g.C.Core.acts g.C.Core.HasBegun c.args.opening.start c.args.opening.round c.args.opening.first c.args.place c.args.due c.args.flows.now c.args.counts.now (g.N.Net.open_flow c.args.net.now) (g.N.Net.time c.args.net.now) c.args.sends.now.items c.requires.progress c.requires.due in
    let here = slice_get-get_or c.args.flows.now c.args.place c.index-flows-place.result c.requires.due.within in
    (d.2 _ here).1

pub pass_deadline-requires-clause-small : goal.pass_deadline-requires-clause-small
pass_deadline-requires-clause-small g c =
    let d = due_facts g.C.Core.acts g.C.Core.HasBegun c.args.opening.start c.args.opening.round c.args.opening.first c.args.place c.args.due c.args.flows.now c.args.counts.now (g.N.Net.open_flow c.args.net.now) (g.N.Net.time c.args.net.now) c.args.sends.now.items c.requires.progress c.requires.due in
    let limit = d.1 in omega (arith, limit)

pub returns-in_err-pass_deadline-in-Quiet-clause-soon : goal.returns-in_err-pass_deadline-in-Quiet-clause-soon
returns-in_err-pass_deadline-in-Quiet-clause-soon g c =
    let d = due_facts g.C.Core.acts g.C.Core.HasBegun c.args.opening.start c.args.opening.round c.args.opening.first c.args.place c.args.due c.args.flows.now c.args.counts.now (g.N.Net.open_flow c.args.net.now) (g.N.Net.time c.args.net.now) c.args.sends.now.items c.requires.progress c.requires.due in
    let q = answers_quiet (g.N.Net.open_flow c.args.net.now) (g.N.Net.open_flow c.next.new.self) (g.N.Net.time c.args.net.now) (c.args.opening.start + c.args.due) (g.N.Net.time c.next.new.self) c.in_ok-next.field-0 c.in-Quiet.is c.in_ok-next.ensures.answers in
    let limit = d.1 in let until = q.1 in let same = c.in_err-pass_deadline-in-Quiet.ensures.time in omega (arith, limit, until, same)

pub take_arrival-requires-clause-begun : goal.take_arrival-requires-clause-begun
take_arrival-requires-clause-begun g c =
    let gv = answers_came (g.N.Net.open_flow c.args.net.now) (g.N.Net.open_flow c.next.new.self) (g.N.Net.time c.args.net.now) (c.args.opening.start + c.args.due) (g.N.Net.time c.next.new.self) c.in-Came.flow c.in-Came.arrival c.in_ok-next.field-0 c.in-Came.is c.in_ok-next.ensures.answers in
    let f = came_facts g.C.Core.acts g.C.Core.HasBegun c.args.opening.start c.args.opening.round c.args.opening.first c.args.place c.args.due c.in-Came.flow c.args.flows.now c.args.counts.now (g.N.Net.open_flow c.args.net.now) (g.N.Net.open_flow c.next.new.self) (g.N.Net.time c.args.net.now) (g.N.Net.time c.next.new.self) c.args.sends.now.items c.requires.progress c.requires.due gv.0 gv.1 gv.2 in
    let here = slice_get-get_or c.args.flows.now (c.in-Came.flow - c.args.opening.first) c.index-flows-place-in-Came.result f.1 in
    (f.3 _ here).0

pub take_arrival-requires-clause-early : goal.take_arrival-requires-clause-early
take_arrival-requires-clause-early g c =
    let gv = answers_came (g.N.Net.open_flow c.args.net.now) (g.N.Net.open_flow c.next.new.self) (g.N.Net.time c.args.net.now) (c.args.opening.start + c.args.due) (g.N.Net.time c.next.new.self) c.in-Came.flow c.in-Came.arrival c.in_ok-next.field-0 c.in-Came.is c.in_ok-next.ensures.answers in
    let f = came_facts g.C.Core.acts g.C.Core.HasBegun c.args.opening.start c.args.opening.round c.args.opening.first c.args.place c.args.due c.in-Came.flow c.args.flows.now c.args.counts.now (g.N.Net.open_flow c.args.net.now) (g.N.Net.open_flow c.next.new.self) (g.N.Net.time c.args.net.now) (g.N.Net.time c.next.new.self) c.args.sends.now.items c.requires.progress c.requires.due gv.0 gv.1 gv.2 in
    let here = slice_get-get_or c.args.flows.now (c.in-Came.flow - c.args.opening.first) c.index-flows-place-in-Came.result f.1 in
    subst (λ t. IsEarly (t - c.args.opening.start) (g.C.Core.acts.deadline ((get_or c.args.flows.now (c.in-Came.flow - c.args.opening.first) c.index-flows-place-in-Came.result).core))) (sym c.now.ensures) ((f.3 _ here).1)

pub take_arrival-requires-clause-small : goal.take_arrival-requires-clause-small
take_arrival-requires-clause-small g c =
    let d = due_facts g.C.Core.acts g.C.Core.HasBegun c.args.opening.start c.args.opening.round c.args.opening.first c.args.place c.args.due c.args.flows.now c.args.counts.now (g.N.Net.open_flow c.args.net.now) (g.N.Net.time c.args.net.now) c.args.sends.now.items c.requires.progress c.requires.due in
    let gv = answers_came (g.N.Net.open_flow c.args.net.now) (g.N.Net.open_flow c.next.new.self) (g.N.Net.time c.args.net.now) (c.args.opening.start + c.args.due) (g.N.Net.time c.next.new.self) c.in-Came.flow c.in-Came.arrival c.in_ok-next.field-0 c.in-Came.is c.in_ok-next.ensures.answers in
    let limit = d.1 in let lt = gv.2 in let e = c.now.ensures in omega (arith, limit, lt, e)

pub returns-in_err-take_arrival-in-Came-clause-soon : goal.returns-in_err-take_arrival-in-Came-clause-soon
returns-in_err-take_arrival-in-Came-clause-soon g c =
    let d = due_facts g.C.Core.acts g.C.Core.HasBegun c.args.opening.start c.args.opening.round c.args.opening.first c.args.place c.args.due c.args.flows.now c.args.counts.now (g.N.Net.open_flow c.args.net.now) (g.N.Net.time c.args.net.now) c.args.sends.now.items c.requires.progress c.requires.due in
    let gv = answers_came (g.N.Net.open_flow c.args.net.now) (g.N.Net.open_flow c.next.new.self) (g.N.Net.time c.args.net.now) (c.args.opening.start + c.args.due) (g.N.Net.time c.next.new.self) c.in-Came.flow c.in-Came.arrival c.in_ok-next.field-0 c.in-Came.is c.in_ok-next.ensures.answers in
    let limit = d.1 in let lt = gv.2 in let same = c.in_err-take_arrival-in-Came.ensures.time in omega (arith, limit, lt, same)

pub returns-in_ok-pass_deadline-in-Quiet-clause-turns : goal.returns-in_ok-pass_deadline-in-Quiet-clause-turns
returns-in_ok-pass_deadline-in-Quiet-clause-turns g c =
    let d = due_facts g.C.Core.acts g.C.Core.HasBegun c.args.opening.start c.args.opening.round c.args.opening.first c.args.place c.args.due c.args.flows.now c.args.counts.now (g.N.Net.open_flow c.args.net.now) (g.N.Net.time c.args.net.now) c.args.sends.now.items c.requires.progress c.requires.due in
    let q = answers_quiet (g.N.Net.open_flow c.args.net.now) (g.N.Net.open_flow c.next.new.self) (g.N.Net.time c.args.net.now) (c.args.opening.start + c.args.due) (g.N.Net.time c.next.new.self) c.in_ok-next.field-0 c.in-Quiet.is c.in_ok-next.ensures.answers in
    let here = slice_get-get_or c.args.flows.now c.args.place c.index-flows-place.result c.requires.due.within in
    let core = g.C.Core.acts.expired ((get_or c.args.flows.now c.args.place c.index-flows-place.result).core) c.args.due in
    let letters = g.C.Core.acts.expired_letters ((get_or c.args.flows.now c.args.place c.index-flows-place.result).core) c.args.due in
    let timed = subst (λ t. GoesOn t c.args.opening.round (c.args.opening.first + c.args.place) ((get_or c.args.flows.now c.args.place c.index-flows-place.result).label) letters (g.C.Core.acts.deadline core) (g.N.Net.open_flow c.next.new.self) (g.N.Net.open_flow c.pass_deadline.new.net) c.args.sends.now.items c.pass_deadline.new.sends.items (g.N.Net.sent c.next.new.self) (g.N.Net.sent c.pass_deadline.new.net)) q.1 c.in_ok-pass_deadline-in-Quiet.ensures.goes in
    let goes = subst (λ n. GoesOn (c.args.opening.start + c.args.due) c.args.opening.round (c.args.opening.first + c.args.place) ((get_or c.args.flows.now c.args.place c.index-flows-place.result).label) letters (g.C.Core.acts.deadline core) (g.N.Net.open_flow c.next.new.self) (g.N.Net.open_flow c.pass_deadline.new.net) c.args.sends.now.items c.pass_deadline.new.sends.items n (g.N.Net.sent c.pass_deadline.new.net)) c.in_ok-next.ensures.sent timed in
    let none = λ (told : List Row) (is : g.N.Net.rows c.args.net.now ≡ Some told). earliest_quiet told (g.N.Net.open_flow c.args.net.now) (c.args.opening.start + c.args.due) (g.N.Net.time c.next.new.self) c.in_ok-next.field-0 c.in-Quiet.is (c.in_ok-next.ensures.earliest told is) in
    let turns = quiet_turns g.C.Core.acts g.C.Core.IsNew g.C.Core.HasBegun g.met.C.Core.lawful c.args.opening.start c.args.opening.round c.args.opening.first c.args.place c.args.due c.args.flows.now (set c.args.flows.now c.args.place c.pass_deadline.new.flow) (get_or c.args.flows.now c.args.place c.index-flows-place.result) c.args.counts.now (g.N.Net.open_flow c.args.net.now) (g.N.Net.open_flow c.next.new.self) (g.N.Net.open_flow c.pass_deadline.new.net) (g.N.Net.time c.args.net.now) (g.N.Net.rows c.args.net.now) c.args.sends.now.items c.pass_deadline.new.sends.items (g.N.Net.sent c.args.net.now) (g.N.Net.sent c.pass_deadline.new.net) c.requires.progress c.requires.due here (ap (set c.args.flows.now c.args.place) c.in_ok-pass_deadline-in-Quiet.ensures.core) q.0 none goes in
    subst (λ t. TurnsOn g.C.Core.acts g.C.Core.HasBegun c.args.opening.start c.args.opening.round c.args.opening.first c.args.flows.now (set c.args.flows.now c.args.place c.pass_deadline.new.flow) c.args.counts.now c.args.counts.now (g.N.Net.open_flow c.pass_deadline.new.net) (g.N.Net.time c.args.net.now) t (g.N.Net.rows c.args.net.now) c.args.sends.now.items c.pass_deadline.new.sends.items (g.N.Net.sent c.args.net.now) (g.N.Net.sent c.pass_deadline.new.net)) (sym (c.in_ok-pass_deadline-in-Quiet.ensures.time ∙ q.1)) turns

pub returns-in_ok-pass_deadline-in-Quiet-clause-soon : goal.returns-in_ok-pass_deadline-in-Quiet-clause-soon
returns-in_ok-pass_deadline-in-Quiet-clause-soon g c =
    let d = due_facts g.C.Core.acts g.C.Core.HasBegun c.args.opening.start c.args.opening.round c.args.opening.first c.args.place c.args.due c.args.flows.now c.args.counts.now (g.N.Net.open_flow c.args.net.now) (g.N.Net.time c.args.net.now) c.args.sends.now.items c.requires.progress c.requires.due in
    let q = answers_quiet (g.N.Net.open_flow c.args.net.now) (g.N.Net.open_flow c.next.new.self) (g.N.Net.time c.args.net.now) (c.args.opening.start + c.args.due) (g.N.Net.time c.next.new.self) c.in_ok-next.field-0 c.in-Quiet.is c.in_ok-next.ensures.answers in
    let limit = d.1 in let until = q.1 in let same = c.in_ok-pass_deadline-in-Quiet.ensures.time in omega (arith, limit, until, same)

pub returns-in_ok-take_arrival-in-Came-clause-turns : goal.returns-in_ok-take_arrival-in-Came-clause-turns
returns-in_ok-take_arrival-in-Came-clause-turns g c =
    let gv = answers_came (g.N.Net.open_flow c.args.net.now) (g.N.Net.open_flow c.next.new.self) (g.N.Net.time c.args.net.now) (c.args.opening.start + c.args.due) (g.N.Net.time c.next.new.self) c.in-Came.flow c.in-Came.arrival c.in_ok-next.field-0 c.in-Came.is c.in_ok-next.ensures.answers in
    let f = came_facts g.C.Core.acts g.C.Core.HasBegun c.args.opening.start c.args.opening.round c.args.opening.first c.args.place c.args.due c.in-Came.flow c.args.flows.now c.args.counts.now (g.N.Net.open_flow c.args.net.now) (g.N.Net.open_flow c.next.new.self) (g.N.Net.time c.args.net.now) (g.N.Net.time c.next.new.self) c.args.sends.now.items c.requires.progress c.requires.due gv.0 gv.1 gv.2 in
    let here = slice_get-get_or c.args.flows.now (c.in-Came.flow - c.args.opening.first) c.index-flows-place-in-Came.result f.1 in
    let clock = c.now.ensures in let low = f.0 in let since_then = f.2 in let now_le = gv.1 in let until = gv.2 in
    let number : c.in-Came.flow ≡ c.args.opening.first + (c.in-Came.flow - c.args.opening.first) = omega (arith, low) in
    let when : (g.N.Net.time c.next.new.self) ≡ c.args.opening.start + (c.now.result - c.args.opening.start) = omega (arith, clock, since_then) in
    let core = unless_flooded g.C.Core.acts (slice_index c.args.counts.now (c.in-Came.flow - c.args.opening.first) + 1) (g.C.Core.acts.arrived ((get_or c.args.flows.now (c.in-Came.flow - c.args.opening.first) c.index-flows-place-in-Came.result).core) (c.now.result - c.args.opening.start) c.in-Came.arrival) in
    let letters = g.C.Core.acts.arrived_letters ((get_or c.args.flows.now (c.in-Came.flow - c.args.opening.first) c.index-flows-place-in-Came.result).core) (c.now.result - c.args.opening.start) c.in-Came.arrival in
    let gives = subst (λ m. GivesTo m (g.N.Net.open_flow c.args.net.now) (g.N.Net.open_flow c.next.new.self)) number gv.0 in
    let numbered = subst (λ m. GoesOn (g.N.Net.time c.next.new.self) c.args.opening.round m ((get_or c.args.flows.now (c.in-Came.flow - c.args.opening.first) c.index-flows-place-in-Came.result).label) letters (g.C.Core.acts.deadline core) (g.N.Net.open_flow c.next.new.self) (g.N.Net.open_flow c.take_arrival.new.net) c.args.sends.now.items c.take_arrival.new.sends.items (g.N.Net.sent c.next.new.self) (g.N.Net.sent c.take_arrival.new.net)) number c.in_ok-take_arrival-in-Came.ensures.goes in
    let timed = subst (λ t. GoesOn t c.args.opening.round (c.args.opening.first + (c.in-Came.flow - c.args.opening.first)) ((get_or c.args.flows.now (c.in-Came.flow - c.args.opening.first) c.index-flows-place-in-Came.result).label) letters (g.C.Core.acts.deadline core) (g.N.Net.open_flow c.next.new.self) (g.N.Net.open_flow c.take_arrival.new.net) c.args.sends.now.items c.take_arrival.new.sends.items (g.N.Net.sent c.next.new.self) (g.N.Net.sent c.take_arrival.new.net)) when numbered in
    let goes = subst (λ n. GoesOn (c.args.opening.start + (c.now.result - c.args.opening.start)) c.args.opening.round (c.args.opening.first + (c.in-Came.flow - c.args.opening.first)) ((get_or c.args.flows.now (c.in-Came.flow - c.args.opening.first) c.index-flows-place-in-Came.result).label) letters (g.C.Core.acts.deadline core) (g.N.Net.open_flow c.next.new.self) (g.N.Net.open_flow c.take_arrival.new.net) c.args.sends.now.items c.take_arrival.new.sends.items n (g.N.Net.sent c.take_arrival.new.net)) c.in_ok-next.ensures.sent timed in
    let earliest = λ (told : List Row) (is : g.N.Net.rows c.args.net.now ≡ Some told) (flow : OpenFlow) (h : g.N.Net.open_flow c.args.net.now (c.args.opening.first + (c.in-Came.flow - c.args.opening.first)) ≡ Some flow).
    subst (λ t. IsNextOf told flow c.in-Came.arrival t) when (earliest_came told (g.N.Net.open_flow c.args.net.now) (c.args.opening.start + c.args.due) (g.N.Net.time c.next.new.self) c.in-Came.flow c.in-Came.arrival c.in_ok-next.field-0 c.in-Came.is (c.in_ok-next.ensures.earliest told is) flow (ap (g.N.Net.open_flow c.args.net.now) number ∙ h)) in
    let turns = came_turns g.C.Core.acts g.C.Core.IsNew g.C.Core.HasBegun g.met.C.Core.lawful c.args.opening.start c.args.opening.round c.args.opening.first c.args.place c.args.due (c.in-Came.flow - c.args.opening.first) (c.now.result - c.args.opening.start) c.in-Came.arrival c.args.flows.now (set c.args.flows.now (c.in-Came.flow - c.args.opening.first) c.take_arrival.new.flow) (get_or c.args.flows.now (c.in-Came.flow - c.args.opening.first) c.index-flows-place-in-Came.result) c.args.counts.now (g.N.Net.open_flow c.args.net.now) (g.N.Net.open_flow c.next.new.self) (g.N.Net.open_flow c.take_arrival.new.net) (g.N.Net.time c.args.net.now) (g.N.Net.rows c.args.net.now) c.args.sends.now.items c.take_arrival.new.sends.items (g.N.Net.sent c.args.net.now) (g.N.Net.sent c.take_arrival.new.net) c.requires.progress c.requires.due gives (omega (arith, when, now_le)) (omega (arith, clock, since_then, until)) f.1 here (ap (set c.args.flows.now (c.in-Came.flow - c.args.opening.first)) c.in_ok-take_arrival-in-Came.ensures.core) earliest goes in
    subst (λ t. TurnsOn g.C.Core.acts g.C.Core.HasBegun c.args.opening.start c.args.opening.round c.args.opening.first c.args.flows.now (set c.args.flows.now (c.in-Came.flow - c.args.opening.first) c.take_arrival.new.flow) c.args.counts.now (set c.args.counts.now (c.in-Came.flow - c.args.opening.first) (slice_index c.args.counts.now (c.in-Came.flow - c.args.opening.first) + 1)) (g.N.Net.open_flow c.take_arrival.new.net) (g.N.Net.time c.args.net.now) t (g.N.Net.rows c.args.net.now) c.args.sends.now.items c.take_arrival.new.sends.items (g.N.Net.sent c.args.net.now) (g.N.Net.sent c.take_arrival.new.net)) (sym (c.in_ok-take_arrival-in-Came.ensures.time ∙ when)) turns

pub returns-in_ok-take_arrival-in-Came-clause-shut : goal.returns-in_ok-take_arrival-in-Came-clause-shut
returns-in_ok-take_arrival-in-Came-clause-shut g c =
    let gv = answers_came (g.N.Net.open_flow c.args.net.now) (g.N.Net.open_flow c.next.new.self) (g.N.Net.time c.args.net.now) (c.args.opening.start + c.args.due) (g.N.Net.time c.next.new.self) c.in-Came.flow c.in-Came.arrival c.in_ok-next.field-0 c.in-Came.is c.in_ok-next.ensures.answers in
    let f = came_facts g.C.Core.acts g.C.Core.HasBegun c.args.opening.start c.args.opening.round c.args.opening.first c.args.place c.args.due c.in-Came.flow c.args.flows.now c.args.counts.now (g.N.Net.open_flow c.args.net.now) (g.N.Net.open_flow c.next.new.self) (g.N.Net.time c.args.net.now) (g.N.Net.time c.next.new.self) c.args.sends.now.items c.requires.progress c.requires.due gv.0 gv.1 gv.2 in
    let p = came_place c.args.opening.first (length c.args.flows.now) c.in-Came.flow (g.N.Net.open_flow c.args.net.now) (g.N.Net.open_flow c.next.new.self) c.requires.progress.others gv.0 in
    let low = p.0 in let high = p.1 in
    let number : c.in-Came.flow ≡ c.args.opening.first + (c.in-Came.flow - c.args.opening.first) = omega (arith, low) in
    let n = length-set c.args.flows.now (c.in-Came.flow - c.args.opening.first) c.take_arrival.new.flow in
    λ m out. elim out [
      | inl a ↦ c.in_ok-take_arrival-in-Came.ensures.goes.closes.others m (λ e. omega (arith, e, low, a)) ∙ (gv.0.others m (λ e. omega (arith, e, low, a)) ∙ c.requires.progress.others m (inl a))
      | inr b ↦ c.in_ok-take_arrival-in-Came.ensures.goes.closes.others m (λ e. omega (arith, e, high, b, n)) ∙ (gv.0.others m (λ e. omega (arith, e, high, b, n)) ∙ c.requires.progress.others m (inr (omega (arith, b, n))))
    ]

pub returns-in_ok-take_arrival-in-Came-clause-soon : goal.returns-in_ok-take_arrival-in-Came-clause-soon
returns-in_ok-take_arrival-in-Came-clause-soon g c =
    let d = due_facts g.C.Core.acts g.C.Core.HasBegun c.args.opening.start c.args.opening.round c.args.opening.first c.args.place c.args.due c.args.flows.now c.args.counts.now (g.N.Net.open_flow c.args.net.now) (g.N.Net.time c.args.net.now) c.args.sends.now.items c.requires.progress c.requires.due in
    let gv = answers_came (g.N.Net.open_flow c.args.net.now) (g.N.Net.open_flow c.next.new.self) (g.N.Net.time c.args.net.now) (c.args.opening.start + c.args.due) (g.N.Net.time c.next.new.self) c.in-Came.flow c.in-Came.arrival c.in_ok-next.field-0 c.in-Came.is c.in_ok-next.ensures.answers in
    let limit = d.1 in let lt = gv.2 in let same = c.in_ok-take_arrival-in-Came.ensures.time in omega (arith, limit, lt, same)
