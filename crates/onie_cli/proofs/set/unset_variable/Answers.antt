use Rattle.std.proofs.Common.{Result, ap, refl, subst, sym}
use Rattle.boot_vars.specs.declared.fault.VarFault.{VarFault}
use Rattle.onie_modes.specs.Devices.{with_plant}
use Rattle.onie_modes.specs.Running.{Runs}
use Rattle.onie_modes.specs.declared.exit.Status.{Status}
use Rattle.onie_cli.specs.Set.{changes_flash, unset_change}
use Rattle.onie_cli.proofs.Changing.{ends_changed, ends_unopened, kept_of, made_by_unset, status_of}
use Rattle.onie_cli.proofs.set.unset_variable.Goals as goal

pub returns-in-Err : goal.returns-in-Err
returns-in-Err g c = record {
  runs = λ d.
      subst (λ (s : Status). Runs (changes_flash (unset_change c.args.name.now) (g.P.Plant.view c.args.plant.now) (g.P.Plant.view c.open_synced.new.plant)) (with_plant d (g.P.Plant.view c.args.plant.now).faults) (with_plant d (g.P.Plant.view c.open_synced.new.plant).faults) s) (sym c.unopened.ensures)
      (ends_unopened (unset_change c.args.name.now) (g.P.Plant.view c.args.plant.now) (g.P.Plant.view c.open_synced.new.plant) (with_plant d (g.P.Plant.view c.args.plant.now).faults) c.in-Err.fault refl c.open_synced.ensures.settled c.in-Err.ensures.cause
      (λ kept tells other. c.open_synced.ensures.none kept c.in-Err.fault tells c.in-Err.is other));
}

pub returns-in-Ok-unset : goal.returns-in-Ok-unset
returns-in-Ok-unset g c = record {
  runs = λ d.
      subst (λ (r : Result Unit VarFault). Runs (changes_flash (unset_change c.args.name.now) (g.P.Plant.view c.args.plant.now) (g.P.Plant.view c.unset.new.plant)) (with_plant d (g.P.Plant.view c.args.plant.now).faults) (with_plant d (g.P.Plant.view c.unset.new.plant).faults) (status_of r)) c.in-Ok-unset.is
      (ends_changed (unset_change c.args.name.now) (g.P.Plant.view c.args.plant.now) (g.P.Plant.view c.open_synced.new.plant) (g.P.Plant.view c.unset.new.plant) (with_plant d (g.P.Plant.view c.args.plant.now).faults) (kept_of c.in-Ok.vars) c.unset.result refl c.open_synced.ensures.settled c.in-Ok.ensures.held c.in-Ok.ensures.lines
      (made_by_unset (g.P.Plant.view c.open_synced.new.plant) (g.P.Plant.view c.unset.new.plant) c.in-Ok.vars c.unset.new.self c.args.name.now c.unset.result (g.met.P.Plant.honest c.open_synced.new.plant) c.in-Ok.ensures.durable
      c.unset.ensures.answer (λ vs spells some. ap g.P.Plant.view (c.unset.ensures.refused vs spells some)) (λ vs spells none. ap g.P.Plant.view (c.unset.ensures.absent vs spells none).0) c.unset.ensures.set c.unset.ensures.durable c.unset.ensures.changes c.in-Ok.ensures.lines) (c.in-Ok.ensures.cause.quiet (λ e. cc)) c.unset.ensures.cause);
}

pub returns-in-Err-unset : goal.returns-in-Err-unset
returns-in-Err-unset g c = record {
  runs = λ d.
      subst (λ (s : Status). Runs (changes_flash (unset_change c.args.name.now) (g.P.Plant.view c.args.plant.now) (g.P.Plant.view c.unset.new.plant)) (with_plant d (g.P.Plant.view c.args.plant.now).faults) (with_plant d (g.P.Plant.view c.unset.new.plant).faults) s) (sym c.unchanged.ensures)
      (subst (λ (r : Result Unit VarFault). Runs (changes_flash (unset_change c.args.name.now) (g.P.Plant.view c.args.plant.now) (g.P.Plant.view c.unset.new.plant)) (with_plant d (g.P.Plant.view c.args.plant.now).faults) (with_plant d (g.P.Plant.view c.unset.new.plant).faults) (status_of r)) c.in-Err-unset.is
      (ends_changed (unset_change c.args.name.now) (g.P.Plant.view c.args.plant.now) (g.P.Plant.view c.open_synced.new.plant) (g.P.Plant.view c.unset.new.plant) (with_plant d (g.P.Plant.view c.args.plant.now).faults) (kept_of c.in-Ok.vars) c.unset.result refl c.open_synced.ensures.settled c.in-Ok.ensures.held c.in-Ok.ensures.lines
      (made_by_unset (g.P.Plant.view c.open_synced.new.plant) (g.P.Plant.view c.unset.new.plant) c.in-Ok.vars c.unset.new.self c.args.name.now c.unset.result (g.met.P.Plant.honest c.open_synced.new.plant) c.in-Ok.ensures.durable
      c.unset.ensures.answer (λ vs spells some. ap g.P.Plant.view (c.unset.ensures.refused vs spells some)) (λ vs spells none. ap g.P.Plant.view (c.unset.ensures.absent vs spells none).0) c.unset.ensures.set c.unset.ensures.durable c.unset.ensures.changes c.in-Ok.ensures.lines) (c.in-Ok.ensures.cause.quiet (λ e. cc)) c.unset.ensures.cause));
}
