use Rattle.std.proofs.Common.{Result, ap, refl, subst, sym}
use Rattle.boot_vars.specs.declared.fault.VarFault.{VarFault}
use Rattle.onie_modes.specs.Devices.{with_plant}
use Rattle.onie_modes.specs.Running.{Runs}
use Rattle.onie_modes.specs.declared.exit.Status.{Status}
use Rattle.onie_cli.specs.Set.{changes_flash, set_change}
use Rattle.onie_cli.proofs.Changing.{ends_changed, ends_unopened, kept_of, made_by_set, status_of}
use Rattle.onie_cli.proofs.set.set_variable.Goals as goal

pub returns-in-Err : goal.returns-in-Err
returns-in-Err g c = record {
  runs = λ d.
      subst (λ (s : Status). Runs (changes_flash (set_change (record { name = c.args.name.now; value = c.args.value.now })) (g.P.Plant.view c.args.plant.now) (g.P.Plant.view c.open_synced.new.plant)) (with_plant d (g.P.Plant.view c.args.plant.now).faults) (with_plant d (g.P.Plant.view c.open_synced.new.plant).faults) s) (sym c.unopened.ensures)
      (ends_unopened (set_change (record { name = c.args.name.now; value = c.args.value.now })) (g.P.Plant.view c.args.plant.now) (g.P.Plant.view c.open_synced.new.plant) (with_plant d (g.P.Plant.view c.args.plant.now).faults) c.in-Err.fault refl c.open_synced.ensures.settled c.in-Err.ensures.cause
      (λ kept tells other. c.open_synced.ensures.none kept c.in-Err.fault tells c.in-Err.is other));
}

pub returns-in-Ok-set : goal.returns-in-Ok-set
returns-in-Ok-set g c = record {
  runs = λ d.
      subst (λ (r : Result Unit VarFault). Runs (changes_flash (set_change (record { name = c.args.name.now; value = c.args.value.now })) (g.P.Plant.view c.args.plant.now) (g.P.Plant.view c.set.new.plant)) (with_plant d (g.P.Plant.view c.args.plant.now).faults) (with_plant d (g.P.Plant.view c.set.new.plant).faults) (status_of r)) c.in-Ok-set.is
      (ends_changed (set_change (record { name = c.args.name.now; value = c.args.value.now })) (g.P.Plant.view c.args.plant.now) (g.P.Plant.view c.open_synced.new.plant) (g.P.Plant.view c.set.new.plant) (with_plant d (g.P.Plant.view c.args.plant.now).faults) (kept_of c.in-Ok.vars) c.set.result refl c.open_synced.ensures.settled c.in-Ok.ensures.held c.in-Ok.ensures.lines
      (made_by_set (g.P.Plant.view c.open_synced.new.plant) (g.P.Plant.view c.set.new.plant) c.in-Ok.vars c.set.new.self (record { name = c.args.name.now; value = c.args.value.now }) c.set.result c.in-Ok.ensures.durable
      c.set.ensures.answer (λ vs spells some. ap g.P.Plant.view (c.set.ensures.refused vs spells some)) c.set.ensures.set c.set.ensures.durable c.set.ensures.changes c.in-Ok.ensures.lines) (c.in-Ok.ensures.cause.quiet (λ e. cc)) c.set.ensures.cause);
}

pub returns-in-Err-set : goal.returns-in-Err-set
returns-in-Err-set g c = record {
  runs = λ d.
      subst (λ (s : Status). Runs (changes_flash (set_change (record { name = c.args.name.now; value = c.args.value.now })) (g.P.Plant.view c.args.plant.now) (g.P.Plant.view c.set.new.plant)) (with_plant d (g.P.Plant.view c.args.plant.now).faults) (with_plant d (g.P.Plant.view c.set.new.plant).faults) s) (sym c.unchanged.ensures)
      (subst (λ (r : Result Unit VarFault). Runs (changes_flash (set_change (record { name = c.args.name.now; value = c.args.value.now })) (g.P.Plant.view c.args.plant.now) (g.P.Plant.view c.set.new.plant)) (with_plant d (g.P.Plant.view c.args.plant.now).faults) (with_plant d (g.P.Plant.view c.set.new.plant).faults) (status_of r)) c.in-Err-set.is
      (ends_changed (set_change (record { name = c.args.name.now; value = c.args.value.now })) (g.P.Plant.view c.args.plant.now) (g.P.Plant.view c.open_synced.new.plant) (g.P.Plant.view c.set.new.plant) (with_plant d (g.P.Plant.view c.args.plant.now).faults) (kept_of c.in-Ok.vars) c.set.result refl c.open_synced.ensures.settled c.in-Ok.ensures.held c.in-Ok.ensures.lines
      (made_by_set (g.P.Plant.view c.open_synced.new.plant) (g.P.Plant.view c.set.new.plant) c.in-Ok.vars c.set.new.self (record { name = c.args.name.now; value = c.args.value.now }) c.set.result c.in-Ok.ensures.durable
      c.set.ensures.answer (λ vs spells some. ap g.P.Plant.view (c.set.ensures.refused vs spells some)) c.set.ensures.set c.set.ensures.durable c.set.ensures.changes c.in-Ok.ensures.lines) (c.in-Ok.ensures.cause.quiet (λ e. cc)) c.set.ensures.cause));
}
