use Rattle.boot_vars.proofs.Changing.{changes_now, wears_now}
use Rattle.boot_vars.proofs.vars.BootVars.set.Goals as goal

pub returns-in_err-length-clause-changes : goal.returns-in_err-length-clause-changes
returns-in_err-length-clause-changes g c = λ vs spells.
    changes_now (g.P.Plant.view c.args.plant.now) c.args.self.now _ (g.met.P.Plant.honest c.args.plant.now) c.requires.synced

pub returns-in_err-length-clause-wears : goal.returns-in_err-length-clause-wears
returns-in_err-length-clause-wears g c = λ vs spells. wears_now (g.P.Plant.view c.args.plant.now) _
