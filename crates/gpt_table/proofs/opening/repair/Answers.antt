use Rattle.std.proofs.Common.{◌≡◌, true, false, sym, ◌∙◌}
use Rattle.gpt_table.proofs.Repairs.{agreeing, agrees, look_opens, repair_lesser, repair_opens, repair_reads, repair_touches}
use Rattle.gpt_table.proofs.opening.repair.Goals as goal

pub returns-in_err-read_table-clause-crash : goal.returns-in_err-read_table-clause-crash
returns-in_err-read_table-clause-crash g c = λ tells. (look_opens _ _ _ tells (c.requires.synced tells) c.read_table.ensures.looks).crash

pub returns-then-is_table-clause-crash : goal.returns-then-is_table-clause-crash
returns-then-is_table-clause-crash g c = λ tells. (look_opens _ _ _ tells (c.requires.synced tells) c.read_table.ensures.looks).crash

pub returns-then-is_table-clause-both : goal.returns-then-is_table-clause-both
returns-then-is_table-clause-both g c = λ tells.
    agreeing c.sectors-sectors.result c.other_of-lesser.result c.args.read_from c.args.table.now (g.P.Plant.view c.args.plant.now) (g.P.Plant.view c.read_table.new.plant) (g.P.Plant.view c.read_table.new.plant) c.sectors-sectors.ensures c.other_of-lesser.ensures c.requires.fits c.in_ok-read_table.ensures.looks
    tells (c.requires.found tells) (sym (c.in_ok-read_table.ensures.read tells) ∙ c.is_table.ensures.0 c.if-is_table.true)

pub returns-in_err-write_table-clause-crash : goal.returns-in_err-write_table-clause-crash
returns-in_err-write_table-clause-crash g c = λ tells.
    (repair_opens c.sectors-sectors.result c.other_of-lesser.result c.args.read_from c.args.table.now (g.P.Plant.view c.args.plant.now) (g.P.Plant.view c.read_table.new.plant) (g.P.Plant.view c.write_table.new.plant) c.sectors-sectors.ensures c.other_of-lesser.ensures c.requires.fits c.in_ok-read_table.ensures.looks
    tells (c.requires.synced tells) (c.requires.found tells) (record { touches = c.write_table.ensures.touches; between = c.write_table.ensures.between })).crash

pub returns-in_err-write_table-clause-between : goal.returns-in_err-write_table-clause-between
returns-in_err-write_table-clause-between g c = λ tells.
    (repair_opens c.sectors-sectors.result c.other_of-lesser.result c.args.read_from c.args.table.now (g.P.Plant.view c.args.plant.now) (g.P.Plant.view c.read_table.new.plant) (g.P.Plant.view c.write_table.new.plant) c.sectors-sectors.ensures c.other_of-lesser.ensures c.requires.fits c.in_ok-read_table.ensures.looks
    tells (c.requires.synced tells) (c.requires.found tells) (record { touches = c.write_table.ensures.touches; between = c.write_table.ensures.between })).between

pub returns-in_err-write_table-clause-touches : goal.returns-in_err-write_table-clause-touches
returns-in_err-write_table-clause-touches g c =
    repair_touches c.sectors-sectors.result c.other_of-lesser.result c.args.read_from c.args.table.now (g.P.Plant.view c.args.plant.now) (g.P.Plant.view c.read_table.new.plant) (g.P.Plant.view c.write_table.new.plant) c.sectors-sectors.ensures c.other_of-lesser.ensures c.requires.fits c.in_ok-read_table.ensures.looks
    c.write_table.ensures.touches

pub returns-in_err-write_table-clause-agreeing : goal.returns-in_err-write_table-clause-agreeing
returns-in_err-write_table-clause-agreeing g c = λ tells t both.
    let there = agrees c.sectors-sectors.result c.other_of-lesser.result c.args.read_from c.args.table.now (g.P.Plant.view c.args.plant.now) (g.P.Plant.view c.read_table.new.plant) (g.P.Plant.view c.write_table.new.plant) c.sectors-sectors.ensures c.other_of-lesser.ensures c.requires.fits c.in_ok-read_table.ensures.looks
    t (c.requires.found tells) both in
    let same = c.is_table.ensures.1 (c.in_ok-read_table.ensures.read tells ∙ there) in
    let no : true ≡ false = sym same ∙ c.if-is_table.false in
    absurd cc

pub returns-clause-crash : goal.returns-clause-crash
returns-clause-crash g c = λ tells.
    (repair_opens c.sectors-sectors.result c.other_of-lesser.result c.args.read_from c.args.table.now (g.P.Plant.view c.args.plant.now) (g.P.Plant.view c.read_table.new.plant) (g.P.Plant.view c.write_table.new.plant) c.sectors-sectors.ensures c.other_of-lesser.ensures c.requires.fits c.in_ok-read_table.ensures.looks
    tells (c.requires.synced tells) (c.requires.found tells) (record { touches = c.write_table.ensures.touches; between = c.write_table.ensures.between })).crash

pub returns-clause-between : goal.returns-clause-between
returns-clause-between g c = λ tells.
    (repair_opens c.sectors-sectors.result c.other_of-lesser.result c.args.read_from c.args.table.now (g.P.Plant.view c.args.plant.now) (g.P.Plant.view c.read_table.new.plant) (g.P.Plant.view c.write_table.new.plant) c.sectors-sectors.ensures c.other_of-lesser.ensures c.requires.fits c.in_ok-read_table.ensures.looks
    tells (c.requires.synced tells) (c.requires.found tells) (record { touches = c.write_table.ensures.touches; between = c.write_table.ensures.between })).between

pub returns-clause-touches : goal.returns-clause-touches
returns-clause-touches g c =
    repair_touches c.sectors-sectors.result c.other_of-lesser.result c.args.read_from c.args.table.now (g.P.Plant.view c.args.plant.now) (g.P.Plant.view c.read_table.new.plant) (g.P.Plant.view c.write_table.new.plant) c.sectors-sectors.ensures c.other_of-lesser.ensures c.requires.fits c.in_ok-read_table.ensures.looks
    c.write_table.ensures.touches

pub returns-clause-agreeing : goal.returns-clause-agreeing
returns-clause-agreeing g c = λ tells t both.
    let there = agrees c.sectors-sectors.result c.other_of-lesser.result c.args.read_from c.args.table.now (g.P.Plant.view c.args.plant.now) (g.P.Plant.view c.read_table.new.plant) (g.P.Plant.view c.write_table.new.plant) c.sectors-sectors.ensures c.other_of-lesser.ensures c.requires.fits c.in_ok-read_table.ensures.looks
    t (c.requires.found tells) both in
    let same = c.is_table.ensures.1 (c.in_ok-read_table.ensures.read tells ∙ there) in
    let no : true ≡ false = sym same ∙ c.if-is_table.false in
    absurd cc

pub returns-clause-both : goal.returns-clause-both
returns-clause-both g c = λ tells.
    repair_reads c.sectors-sectors.result c.other_of-lesser.result c.args.read_from c.args.table.now (g.P.Plant.view c.args.plant.now) (g.P.Plant.view c.read_table.new.plant) (g.P.Plant.view c.write_table.new.plant) c.sectors-sectors.ensures c.other_of-lesser.ensures c.requires.fits c.in_ok-read_table.ensures.looks
    tells (c.requires.found tells) (record { touches = c.write_table.ensures.touches; between = c.write_table.ensures.between }) (c.in_ok-write_table.ensures.reads (c.in_ok-read_table.ensures.looks.continues.still_tells tells))

pub returns-in_err-write_table-clause-lesser : goal.returns-in_err-write_table-clause-lesser
returns-in_err-write_table-clause-lesser g c =
    repair_lesser c.sectors-sectors.result c.other_of-lesser.result c.args.read_from c.args.table.now (g.P.Plant.view c.args.plant.now) (g.P.Plant.view c.read_table.new.plant) (g.P.Plant.view c.write_table.new.plant) c.sectors-sectors.ensures c.other_of-lesser.ensures c.requires.fits c.in_ok-read_table.ensures.looks
    c.write_table.ensures.touches

pub returns-clause-lesser : goal.returns-clause-lesser
returns-clause-lesser g c =
    repair_lesser c.sectors-sectors.result c.other_of-lesser.result c.args.read_from c.args.table.now (g.P.Plant.view c.args.plant.now) (g.P.Plant.view c.read_table.new.plant) (g.P.Plant.view c.write_table.new.plant) c.sectors-sectors.ensures c.other_of-lesser.ensures c.requires.fits c.in_ok-read_table.ensures.looks
    c.write_table.ensures.touches
