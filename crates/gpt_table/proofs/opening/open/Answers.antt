use Rattle.gpt_table.proofs.Repairs.{look_opens, open_lesser, open_look, open_opens, open_reads, open_touches}
use Rattle.gpt_table.proofs.opening.open.Goals as goal

pub returns-in_err-table-clause-crash : goal.returns-in_err-table-clause-crash
returns-in_err-table-clause-crash g c = λ tells. (look_opens _ _ _ tells (c.requires.synced tells) c.look.ensures.looks).crash

pub returns-in_err-table-clause-between : goal.returns-in_err-table-clause-between
returns-in_err-table-clause-between g c = λ tells. (look_opens _ _ _ tells (c.requires.synced tells) c.look.ensures.looks).between

pub returns-in_err-repair-clause-crash : goal.returns-in_err-repair-clause-crash
returns-in_err-repair-clause-crash g c = λ tells.
    let then = c.in_ok-table.ensures.looks.continues.still_tells tells in
    (open_opens (g.P.Plant.view c.args.plant.now) (g.P.Plant.view c.look.new.plant) (g.P.Plant.view c.repair.new.plant) c.in_ok-table.ensures.looks tells (c.requires.synced tells) (record { crash = c.repair.ensures.crash then; between = c.repair.ensures.between then })).crash

pub returns-in_err-repair-clause-between : goal.returns-in_err-repair-clause-between
returns-in_err-repair-clause-between g c = λ tells.
    let then = c.in_ok-table.ensures.looks.continues.still_tells tells in
    (open_opens (g.P.Plant.view c.args.plant.now) (g.P.Plant.view c.look.new.plant) (g.P.Plant.view c.repair.new.plant) c.in_ok-table.ensures.looks tells (c.requires.synced tells) (record { crash = c.repair.ensures.crash then; between = c.repair.ensures.between then })).between

pub returns-in_err-repair-clause-touches : goal.returns-in_err-repair-clause-touches
returns-in_err-repair-clause-touches g c = open_touches (g.P.Plant.view c.args.plant.now) (g.P.Plant.view c.look.new.plant) (g.P.Plant.view c.repair.new.plant) c.in_ok-table.ensures.looks c.repair.ensures.touches

pub returns-in_err-repair-clause-agreeing : goal.returns-in_err-repair-clause-agreeing
returns-in_err-repair-clause-agreeing g c = λ tells t both.
    open_reads (g.P.Plant.view c.args.plant.now) (g.P.Plant.view c.look.new.plant) (g.P.Plant.view c.repair.new.plant) c.in_ok-table.ensures.looks tells t both (c.repair.ensures.agreeing (c.in_ok-table.ensures.looks.continues.still_tells tells) t)

pub returns-clause-crash : goal.returns-clause-crash
returns-clause-crash g c = λ tells.
    let then = c.in_ok-table.ensures.looks.continues.still_tells tells in
    (open_opens (g.P.Plant.view c.args.plant.now) (g.P.Plant.view c.look.new.plant) (g.P.Plant.view c.repair.new.plant) c.in_ok-table.ensures.looks tells (c.requires.synced tells) (record { crash = c.repair.ensures.crash then; between = c.repair.ensures.between then })).crash

pub returns-clause-between : goal.returns-clause-between
returns-clause-between g c = λ tells.
    let then = c.in_ok-table.ensures.looks.continues.still_tells tells in
    (open_opens (g.P.Plant.view c.args.plant.now) (g.P.Plant.view c.look.new.plant) (g.P.Plant.view c.repair.new.plant) c.in_ok-table.ensures.looks tells (c.requires.synced tells) (record { crash = c.repair.ensures.crash then; between = c.repair.ensures.between then })).between

pub returns-clause-touches : goal.returns-clause-touches
returns-clause-touches g c = open_touches (g.P.Plant.view c.args.plant.now) (g.P.Plant.view c.look.new.plant) (g.P.Plant.view c.repair.new.plant) c.in_ok-table.ensures.looks c.repair.ensures.touches

pub returns-clause-agreeing : goal.returns-clause-agreeing
returns-clause-agreeing g c = λ tells t both.
    open_reads (g.P.Plant.view c.args.plant.now) (g.P.Plant.view c.look.new.plant) (g.P.Plant.view c.repair.new.plant) c.in_ok-table.ensures.looks tells t both (c.repair.ensures.agreeing (c.in_ok-table.ensures.looks.continues.still_tells tells) t)

pub returns-in_err-table-clause-lesser : goal.returns-in_err-table-clause-lesser
returns-in_err-table-clause-lesser g c = λ tells. open_look (g.P.Plant.view c.args.plant.now) (g.P.Plant.view c.look.new.plant) (g.P.Plant.view c.look.new.plant) c.look.ensures.looks tells

pub returns-in_err-repair-clause-lesser : goal.returns-in_err-repair-clause-lesser
returns-in_err-repair-clause-lesser g c = λ tells.
    open_lesser (g.P.Plant.view c.args.plant.now) (g.P.Plant.view c.look.new.plant) (g.P.Plant.view c.repair.new.plant) c.in_ok-table.ensures.looks tells _ _ (c.in_ok-table.ensures.found tells) c.repair.ensures.lesser

pub returns-clause-lesser : goal.returns-clause-lesser
returns-clause-lesser g c = λ tells.
    open_lesser (g.P.Plant.view c.args.plant.now) (g.P.Plant.view c.look.new.plant) (g.P.Plant.view c.repair.new.plant) c.in_ok-table.ensures.looks tells _ _ (c.in_ok-table.ensures.found tells) c.repair.ensures.lesser
