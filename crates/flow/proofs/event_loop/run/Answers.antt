use Rattle.std.proofs.Common.{rules, ◌≡◌, ◌<◌, append-nil, length, refl, subst, sym}
use Rattle.std.proofs.lemmas.Bool.Decides.{nat_tests}
use Rattle.std.proofs.Common.{arith}
use Rattle.flow.specs.Running.{HasRun}
use Rattle.flow.proofs.Calls.{closed_all}
use Rattle.flow.proofs.Ending.{all_closed, phase, phase_none}
use Rattle.flow.proofs.event_loop.run.Goals as goal

pub returns-then-is_empty-clause-phase : goal.returns-then-is_empty-clause-phase
returns-then-is_empty-clause-phase g c =
    let is = c.is_empty.ensures in
    let yes' = c.if-is_empty.true in
    let none : length c.args.flows.now ≡ 0 = grind (arith, nat_tests, is, yes') in
    phase_none g.C.Core.acts g.C.Core.HasBegun (g.N.Net.time c.args.net.now) c.args.round (g.N.Net.opened c.args.net.now) (g.N.Net.rows c.args.net.now) c.args.flows.now c.args.sends.now (g.N.Net.sent c.args.net.now) none (sym (append-nil c.args.sends.now))

pub returns-in_err-append-in-Ok-clause-closed : goal.returns-in_err-append-in-Ok-clause-closed
returns-in_err-append-in-Ok-clause-closed g c =
    all_closed g.C.Core.acts g.C.Core.HasBegun c.now-start.result c.args.round c.in_ok-first.first c.race.new.flows c.in-Ok.ensures.has_run.counts (g.N.Net.open_flow c.race.new.net) (g.N.Net.time c.race.new.net) c.race.new.sends.items
    c.in-Ok.ensures.has_run.progress c.in-Ok.ensures.has_run.done

pub returns-in_ok-append-in-Ok-clause-phase : goal.returns-in_ok-append-in-Ok-clause-phase
returns-in_ok-append-in-Ok-clause-phase g c =
    let some : 0 < length c.open_all.new.flows = search rules in
    let number = c.in_ok-first.ensures.number some in
    let numbered = subst (λ m. HasRun g.C.Core.acts g.C.Core.HasBegun c.now-start.result c.args.round m c.open_all.new.flows c.race.new.flows (g.N.Net.open_flow c.race.new.net) (g.N.Net.time c.race.new.net) (g.N.Net.rows c.open_all.new.net) c.open_all.new.sends.items c.race.new.sends.items (g.N.Net.sent c.open_all.new.net) (g.N.Net.sent c.race.new.net)) number c.in-Ok.ensures.has_run in
    let timed = subst (λ t. HasRun g.C.Core.acts g.C.Core.HasBegun t c.args.round (g.N.Net.opened c.args.net.now) c.open_all.new.flows c.race.new.flows (g.N.Net.open_flow c.race.new.net) (g.N.Net.time c.race.new.net) (g.N.Net.rows c.open_all.new.net) c.open_all.new.sends.items c.race.new.sends.items (g.N.Net.sent c.open_all.new.net) (g.N.Net.sent c.race.new.net)) c.now-start.ensures numbered in
    let has_run = subst (λ rows. HasRun g.C.Core.acts g.C.Core.HasBegun (g.N.Net.time c.args.net.now) c.args.round (g.N.Net.opened c.args.net.now) c.open_all.new.flows c.race.new.flows (g.N.Net.open_flow c.race.new.net) (g.N.Net.time c.race.new.net) rows c.open_all.new.sends.items c.race.new.sends.items (g.N.Net.sent c.open_all.new.net) (g.N.Net.sent c.race.new.net)) c.in_ok-first.ensures.rows timed in
    phase g.C.Core.acts g.C.Core.IsNew g.C.Core.HasBegun g.met.C.Core.lawful (g.N.Net.time c.args.net.now) c.args.round (g.N.Net.opened c.args.net.now) c.args.flows.now c.open_all.new.flows c.race.new.flows (g.N.Net.open_flow c.open_all.new.net) (g.N.Net.open_flow c.race.new.net) (g.N.Net.time c.race.new.net) (g.N.Net.rows c.args.net.now) c.args.sends.now c.append.new.self c.open_all.new.sends.items c.race.new.sends.items (g.N.Net.sent c.args.net.now) (g.N.Net.sent c.open_all.new.net) (g.N.Net.sent c.race.new.net) c.requires.new c.in_ok-first.ensures.opening has_run c.in_ok-append-in-Ok.ensures.appended

pub returns-in_ok-append-in-Ok-clause-closed : goal.returns-in_ok-append-in-Ok-clause-closed
returns-in_ok-append-in-Ok-clause-closed g c =
    all_closed g.C.Core.acts g.C.Core.HasBegun c.now-start.result c.args.round c.in_ok-first.first c.race.new.flows c.in-Ok.ensures.has_run.counts (g.N.Net.open_flow c.race.new.net) (g.N.Net.time c.race.new.net) c.race.new.sends.items
    c.in-Ok.ensures.has_run.progress c.in-Ok.ensures.has_run.done

pub returns-in-Err-clause-closed : goal.returns-in-Err-clause-closed
returns-in-Err-clause-closed g c =
    closed_all c.in_ok-first.first c.in_ok-first.first (length c.race.new.flows) (g.N.Net.open_flow c.race.new.net) (g.N.Net.open_flow c.race.new.net) (g.N.Net.open_flow c.close_all.new.net)
    (λ some. refl) c.in-Err.ensures.shut (λ m. refl) c.close_all.ensures.closed c.close_all.ensures.others
