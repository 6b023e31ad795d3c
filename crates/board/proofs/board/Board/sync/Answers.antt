use Rattle.std.proofs.Common.{inl, inr, refl}
use Rattle.cuts.specs.declared.effect.Effect.TheVariants.{Sync}
use Rattle.bd_dev.specs.declared.plant.Area.TheVariants.{Disk}
use Rattle.bd_dev.proofs.Joins.{writes_none}
use Rattle.board.proofs.Leaving.{is_after, may_run}
use Rattle.board.proofs.Keeping.{keeps_still, keeps_sync}
use Rattle.board.proofs.board.Board.sync.Goals as goal

pub returns-in-Err-clause-keeps : goal.returns-in-Err-clause-keeps
returns-in-Err-clause-keeps g c =
    let h = c.args.self.now.held in
    keeps_still (g.P.Plant.view c.args.self.now.plant.now) h _ (g.met.P.Plant.honest c.args.self.now.plant.now) c.requires.live
    (λ i. record { table = h.table; vars = h.vars; journal = c.in-Err.ensures.unchanged i; failed = h.failed })

pub returns-in-Err-sync_area-clause-keeps : goal.returns-in-Err-sync_area-clause-keeps
returns-in-Err-sync_area-clause-keeps g c =
    let synced = c.in-Err-sync_area.ensures in
    keeps_sync (g.P.Plant.view c.args.self.now.plant.now) (g.P.Plant.view c.sync_area.new.plant) c.args.self.now.held _ (g.met.P.Plant.honest c.sync_area.new.plant) c.requires.live
    synced.touches synced.reads refl refl c.in_default.ensures.noted.effects (inl refl)

pub returns-clause-keeps : goal.returns-clause-keeps
returns-clause-keeps g c =
    let synced = c.in_default-sync_area.ensures in
    keeps_sync (g.P.Plant.view c.args.self.now.plant.now) (g.P.Plant.view c.sync_area.new.plant) c.args.self.now.held _ (g.met.P.Plant.honest c.sync_area.new.plant) c.requires.live
    synced.touches synced.reads refl refl c.in_default.ensures.noted.effects (inr synced.synced)

pub returns-clause-live : goal.returns-clause-live
returns-clause-live g c = (returns-clause-keeps g c).live c.requires.live.live

pub returns-in-Err-sync_area-clause-leaves : goal.returns-in-Err-sync_area-clause-leaves
returns-in-Err-sync_area-clause-leaves g c = may_run Sync (g.P.Plant.view c.args.self.now.plant.now) (g.P.Plant.view c.sync_area.new.plant) c.args.self.now.held _
    (returns-in-Err-sync_area-clause-keeps g c) (record { effects = c.in_default.ensures.noted.effects; failed = refl })

pub returns-clause-leaves : goal.returns-clause-leaves
returns-clause-leaves g c = is_after Sync (g.P.Plant.view c.args.self.now.plant.now) (g.P.Plant.view c.sync_area.new.plant) c.args.self.now.held _
    (returns-clause-keeps g c) (record { effects = c.in_default.ensures.noted.effects; failed = c.requires.live.live })

pub returns-in-Err-clause-wears : goal.returns-in-Err-clause-wears
returns-in-Err-clause-wears g c = λ t. let v = g.P.Plant.view c.args.self.now.plant.now in writes_none Disk 0 v v refl

pub returns-in-Err-sync_area-clause-wears : goal.returns-in-Err-sync_area-clause-wears
returns-in-Err-sync_area-clause-wears g c = λ t. writes_none Disk 0 (g.P.Plant.view c.args.self.now.plant.now) (g.P.Plant.view c.sync_area.new.plant) (c.in-Err-sync_area.ensures.wears t)

pub returns-clause-wears : goal.returns-clause-wears
returns-clause-wears g c = λ t. writes_none Disk 0 (g.P.Plant.view c.args.self.now.plant.now) (g.P.Plant.view c.sync_area.new.plant) (c.in_default-sync_area.ensures.wears t)
