use Rattle.gpt_table.proofs.Replacements.{both_read, both_touch, both_written, one_written}
use Rattle.gpt_table.proofs.replacing.replace.Goals as goal

pub returns-in_err-write_table-clause-crash : goal.returns-in_err-write_table-clause-crash
returns-in_err-write_table-clause-crash g c = λ tells before both.
    (one_written c.sectors-sectors.result c.args.table.now (g.P.Plant.view c.args.plant.now) (g.P.Plant.view c.write_table.new.plant) c.sectors-sectors.ensures c.requires.fits
    (record { touches = c.write_table.ensures.touches; between = c.write_table.ensures.between })
    tells (c.requires.synced tells) before both).crash

pub returns-in_err-write_table-clause-ordered : goal.returns-in_err-write_table-clause-ordered
returns-in_err-write_table-clause-ordered g c = λ tells before both.
    (one_written c.sectors-sectors.result c.args.table.now (g.P.Plant.view c.args.plant.now) (g.P.Plant.view c.write_table.new.plant) c.sectors-sectors.ensures c.requires.fits
    (record { touches = c.write_table.ensures.touches; between = c.write_table.ensures.between })
    tells (c.requires.synced tells) before both).ordered

pub returns-in_err-write_table-clause-between : goal.returns-in_err-write_table-clause-between
returns-in_err-write_table-clause-between g c = λ tells before both.
    (one_written c.sectors-sectors.result c.args.table.now (g.P.Plant.view c.args.plant.now) (g.P.Plant.view c.write_table.new.plant) c.sectors-sectors.ensures c.requires.fits
    (record { touches = c.write_table.ensures.touches; between = c.write_table.ensures.between })
    tells (c.requires.synced tells) before both).between

pub returns-in_err-write_table-2-clause-crash : goal.returns-in_err-write_table-2-clause-crash
returns-in_err-write_table-2-clause-crash g c = λ tells before both.
    (both_written c.sectors-sectors.result c.args.table.now (g.P.Plant.view c.args.plant.now) (g.P.Plant.view c.write_table.new.plant) c.sectors-sectors.ensures c.requires.fits
    (record { touches = c.write_table.ensures.touches; between = c.write_table.ensures.between })
    (g.P.Plant.view c.write_table-2.new.plant) (record { touches = c.write_table-2.ensures.touches; between = c.write_table-2.ensures.between })
    tells (c.requires.synced tells) (c.in_ok-write_table.ensures.synced tells) (c.in_ok-write_table.ensures.reads tells) before both).crash

pub returns-in_err-write_table-2-clause-ordered : goal.returns-in_err-write_table-2-clause-ordered
returns-in_err-write_table-2-clause-ordered g c = λ tells before both.
    (both_written c.sectors-sectors.result c.args.table.now (g.P.Plant.view c.args.plant.now) (g.P.Plant.view c.write_table.new.plant) c.sectors-sectors.ensures c.requires.fits
    (record { touches = c.write_table.ensures.touches; between = c.write_table.ensures.between })
    (g.P.Plant.view c.write_table-2.new.plant) (record { touches = c.write_table-2.ensures.touches; between = c.write_table-2.ensures.between })
    tells (c.requires.synced tells) (c.in_ok-write_table.ensures.synced tells) (c.in_ok-write_table.ensures.reads tells) before both).ordered

pub returns-in_err-write_table-2-clause-between : goal.returns-in_err-write_table-2-clause-between
returns-in_err-write_table-2-clause-between g c = λ tells before both.
    (both_written c.sectors-sectors.result c.args.table.now (g.P.Plant.view c.args.plant.now) (g.P.Plant.view c.write_table.new.plant) c.sectors-sectors.ensures c.requires.fits
    (record { touches = c.write_table.ensures.touches; between = c.write_table.ensures.between })
    (g.P.Plant.view c.write_table-2.new.plant) (record { touches = c.write_table-2.ensures.touches; between = c.write_table-2.ensures.between })
    tells (c.requires.synced tells) (c.in_ok-write_table.ensures.synced tells) (c.in_ok-write_table.ensures.reads tells) before both).between

pub returns-in_err-write_table-2-clause-touches : goal.returns-in_err-write_table-2-clause-touches
returns-in_err-write_table-2-clause-touches g c =
    both_touch c.sectors-sectors.result c.args.table.now (g.P.Plant.view c.args.plant.now) (g.P.Plant.view c.write_table.new.plant) c.sectors-sectors.ensures c.requires.fits
    (record { touches = c.write_table.ensures.touches; between = c.write_table.ensures.between })
    (g.P.Plant.view c.write_table-2.new.plant) (record { touches = c.write_table-2.ensures.touches; between = c.write_table-2.ensures.between })

pub returns-clause-crash : goal.returns-clause-crash
returns-clause-crash g c = λ tells before both.
    (both_written c.sectors-sectors.result c.args.table.now (g.P.Plant.view c.args.plant.now) (g.P.Plant.view c.write_table.new.plant) c.sectors-sectors.ensures c.requires.fits
    (record { touches = c.write_table.ensures.touches; between = c.write_table.ensures.between })
    (g.P.Plant.view c.write_table-2.new.plant) (record { touches = c.write_table-2.ensures.touches; between = c.write_table-2.ensures.between })
    tells (c.requires.synced tells) (c.in_ok-write_table.ensures.synced tells) (c.in_ok-write_table.ensures.reads tells) before both).crash

pub returns-clause-ordered : goal.returns-clause-ordered
returns-clause-ordered g c = λ tells before both.
    (both_written c.sectors-sectors.result c.args.table.now (g.P.Plant.view c.args.plant.now) (g.P.Plant.view c.write_table.new.plant) c.sectors-sectors.ensures c.requires.fits
    (record { touches = c.write_table.ensures.touches; between = c.write_table.ensures.between })
    (g.P.Plant.view c.write_table-2.new.plant) (record { touches = c.write_table-2.ensures.touches; between = c.write_table-2.ensures.between })
    tells (c.requires.synced tells) (c.in_ok-write_table.ensures.synced tells) (c.in_ok-write_table.ensures.reads tells) before both).ordered

pub returns-clause-between : goal.returns-clause-between
returns-clause-between g c = λ tells before both.
    (both_written c.sectors-sectors.result c.args.table.now (g.P.Plant.view c.args.plant.now) (g.P.Plant.view c.write_table.new.plant) c.sectors-sectors.ensures c.requires.fits
    (record { touches = c.write_table.ensures.touches; between = c.write_table.ensures.between })
    (g.P.Plant.view c.write_table-2.new.plant) (record { touches = c.write_table-2.ensures.touches; between = c.write_table-2.ensures.between })
    tells (c.requires.synced tells) (c.in_ok-write_table.ensures.synced tells) (c.in_ok-write_table.ensures.reads tells) before both).between

pub returns-clause-touches : goal.returns-clause-touches
returns-clause-touches g c =
    both_touch c.sectors-sectors.result c.args.table.now (g.P.Plant.view c.args.plant.now) (g.P.Plant.view c.write_table.new.plant) c.sectors-sectors.ensures c.requires.fits
    (record { touches = c.write_table.ensures.touches; between = c.write_table.ensures.between })
    (g.P.Plant.view c.write_table-2.new.plant) (record { touches = c.write_table-2.ensures.touches; between = c.write_table-2.ensures.between })

pub returns-clause-both : goal.returns-clause-both
returns-clause-both g c = λ tells.
    let then = c.write_table.ensures.touches.continues.still_tells tells in
    both_read c.sectors-sectors.result c.args.table.now (g.P.Plant.view c.args.plant.now) (g.P.Plant.view c.write_table.new.plant) c.sectors-sectors.ensures c.requires.fits
    (record { touches = c.write_table.ensures.touches; between = c.write_table.ensures.between })
    (g.P.Plant.view c.write_table-2.new.plant) (record { touches = c.write_table-2.ensures.touches; between = c.write_table-2.ensures.between })
    then (c.in_ok-write_table.ensures.reads tells) (c.in_ok-write_table-2.ensures.reads then)
