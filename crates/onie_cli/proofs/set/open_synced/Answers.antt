use Rattle.std.proofs.Common.{Err, ap, ◌∙◌}
use Rattle.onie_cli.proofs.Changing.{not_unopened, settled_by, unopened_is}
use Rattle.onie_cli.proofs.set.open_synced.Goals as goal

pub returns-clause-settled : goal.returns-clause-settled
returns-clause-settled g c =
    settled_by (g.P.Plant.view c.args.plant.now) (g.P.Plant.view c.sync.new.self) (g.P.Plant.view c.open.new.plant) (g.met.P.Plant.honest c.args.plant.now) c.sync.ensures.time c.sync.ensures.between c.sync.ensures.state c.open.ensures.looks

pub returns-clause-none : goal.returns-clause-none
returns-clause-none g c = λ kept fault tells e other holds.
    let mid_tells = c.sync.ensures.time.still_tells tells in
    not_unopened (g.P.Plant.view c.args.plant.now) (g.P.Plant.view c.sync.new.self) kept fault (c.sync.ensures.time.size _) (c.sync.ensures.state tells).reads holds
    (λ none. c.open.ensures.no_slot mid_tells (e ∙ ap Err none)) (λ at bad. c.open.ensures.bad_line at mid_tells (e ∙ ap Err bad)) (unopened_is fault other)
