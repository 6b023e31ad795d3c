use Rattle.std.proofs.Common.{◌+◌, length, take, ap, subst, sym, ◌∙◌}
use Rattle.bd_dev.specs.declared.plant.Area.{Area}
use Rattle.bd_dev.specs.Runs.{WritesAtMost}
use Rattle.slot_pair.specs.Body.{used_sectors}
use Rattle.boot_vars.specs.Vars.{Vars}
use Rattle.boot_vars.proofs.Changing.{changes_of}
use Rattle.boot_vars.proofs.vars.BootVars.store.Goals as goal

pub returns-clause-changes : goal.returns-clause-changes
returns-clause-changes g c = changes_of (g.P.Plant.view c.args.plant.now) (g.P.Plant.view c.put.new.plant) c.args.self.now c.self.inside.pair _ c.requires.fits (sym (ap (λ (v : Vars). v.pair) c.self.view_is)) c.put.ensures.puts c.put.ensures.few

pub returns-in_err-put-clause-changes : goal.returns-in_err-put-clause-changes
returns-in_err-put-clause-changes g c = changes_of (g.P.Plant.view c.args.plant.now) (g.P.Plant.view c.put.new.plant) c.args.self.now c.self.inside.pair _ c.requires.fits (sym (ap (λ (v : Vars). v.pair) c.self.view_is)) c.put.ensures.puts c.put.ensures.few

pub returns-clause-wears : goal.returns-clause-wears
returns-clause-wears g c =
    let area = ap (λ (v : Vars). v.pair.area) c.self.view_is ∙ c.requires.fits.area in
    record { written = λ tells. subst (λ (a : Area). WritesAtMost a (used_sectors (length (take c.args.length c.args.text.now)) + 2) (g.P.Plant.view c.args.plant.now) (g.P.Plant.view c.put.new.plant)) area (c.put.ensures.wears tells) }

pub returns-in_err-put-clause-wears : goal.returns-in_err-put-clause-wears
returns-in_err-put-clause-wears g c =
    let area = ap (λ (v : Vars). v.pair.area) c.self.view_is ∙ c.requires.fits.area in
    record { written = λ tells. subst (λ (a : Area). WritesAtMost a (used_sectors (length (take c.args.length c.args.text.now)) + 2) (g.P.Plant.view c.args.plant.now) (g.P.Plant.view c.put.new.plant)) area (c.put.ensures.wears tells) }
