use Rattle.std.proofs.Common.{Err, ap, sym, ◌∙◌, ⊎_elim}
use Rattle.onie_cli.proofs.Showing.{ends_shown, ends_unread, ends_unshown, ends_unsound}
use Rattle.onie_cli.proofs.status.show_status.Goals as goal

pub returns-in-Err-NotSound-clause-runs : goal.returns-in-Err-NotSound-clause-runs
returns-in-Err-NotSound-clause-runs g c = λ d.
    let is = c.in-Err-NotSound.is ∙ ap Err c.in-Err-NotSound.field-0-is in
    ends_unsound (g.P.Plant.view c.args.plant.now) _ _ c.in-Err-NotSound.kind (c.judge.ensures.cause.quiet (λ e. let same = sym is ∙ e in cc))
    (λ t. c.judge.ensures.unsound c.in-Err-NotSound.kind t is)
    (λ t k h. ⊎_elim (λ e. let same = sym e ∙ is in cc) (λ e. absurd (let same = sym e ∙ is in cc)) (c.judge.ensures.exact k t h))

pub returns-in-Err-Fault-clause-runs : goal.returns-in-Err-Fault-clause-runs
returns-in-Err-Fault-clause-runs g c = λ d.
    let is = c.in-Err-Fault.is ∙ ap Err c.in-Err-Fault.field-0-is in
    ends_unread (g.P.Plant.view c.args.plant.now) _ _ c.judge.ensures.cause.later (c.judge.ensures.cause.failed is)

pub returns-in-Ok-print_status-clause-runs : goal.returns-in-Ok-print_status-clause-runs
returns-in-Ok-print_status-clause-runs g c = λ d.
    ends_shown (g.P.Plant.view c.args.plant.now) _ _ _ c.in-Ok.sound c.boots.result (c.judge.ensures.cause.quiet (λ e. let same = sym c.in-Ok.is ∙ e in cc)) c.in-Ok-print_status.ensures.cause.quiet
    c.in-Ok.ensures.sound c.boots.ensures c.in-Ok-print_status.ensures.written

pub returns-in-Err-clause-runs : goal.returns-in-Err-clause-runs
returns-in-Err-clause-runs g c = λ d.
    ends_unshown (g.P.Plant.view c.args.plant.now) _ _ _ c.in-Ok.sound c.boots.result (c.judge.ensures.cause.quiet (λ e. let same = sym c.in-Ok.is ∙ e in cc)) c.print_status.ensures.cause.later c.in-Err.ensures.cause.failed
    c.in-Ok.ensures.sound c.boots.ensures c.in-Err.ensures.front
