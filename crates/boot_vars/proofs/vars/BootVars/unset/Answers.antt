use Rattle.std.proofs.Common.{◌≡◌, ◌∙◌, None, Some}
use Rattle.boot_vars.proofs.Setting.{absent_refusal}
use Rattle.boot_vars.proofs.Changing.{changes_now, wears_now}
use Rattle.boot_vars.proofs.vars.BootVars.unset.Goals as goal

pub returns-in_err-length-clause-changes : goal.returns-in_err-length-clause-changes
returns-in_err-length-clause-changes g c = λ vs spells.
    changes_now (g.P.Plant.view c.args.plant.now) c.args.self.now _ (g.met.P.Plant.honest c.args.plant.now) c.requires.synced

pub returns-in-None-clause-changes : goal.returns-in-None-clause-changes
returns-in-None-clause-changes g c = λ vs spells.
    changes_now (g.P.Plant.view c.args.plant.now) c.args.self.now _ (g.met.P.Plant.honest c.args.plant.now) c.requires.synced

pub returns-in_err-length-clause-done : goal.returns-in_err-length-clause-done
returns-in_err-length-clause-done g c = λ vs spells none named.
    let same : Some c.in_err-length.field-0.0 ≡ None = c.in_err-length.ensures.refusal vs spells ∙ absent_refusal vs _ _ none named in
    cc

pub returns-in_err-length-clause-wears : goal.returns-in_err-length-clause-wears
returns-in_err-length-clause-wears g c = λ vs spells. wears_now (g.P.Plant.view c.args.plant.now) _

pub returns-in-None-clause-wears : goal.returns-in-None-clause-wears
returns-in-None-clause-wears g c = λ vs spells. wears_now (g.P.Plant.view c.args.plant.now) _
