use Rattle.std.proofs.Common.{inl, inr, refl}
use Rattle.cuts.specs.declared.effect.Effect.TheVariants.{Table as SetTable}
use Rattle.bd_dev.specs.declared.plant.Area.TheVariants.{Disk}
use Rattle.bd_dev.proofs.Joins.{writes_none}
use Rattle.board.proofs.Leaving.{is_after, may_run}
use Rattle.board.proofs.Keeping.{keeps_still, keeps_table}
use Rattle.board.proofs.board.Board.set_table.Goals as goal

pub returns-in-Err-clause-keeps : goal.returns-in-Err-clause-keeps
returns-in-Err-clause-keeps g c =
    let h = c.args.self.now.held in
    keeps_still (g.P.Plant.view c.args.self.now.plant.now) h _ (g.met.P.Plant.honest c.args.self.now.plant.now) c.requires.live
    (λ i. record { table = h.table; vars = h.vars; journal = c.in-Err.ensures.unchanged i; failed = h.failed })

pub returns-in-Err-replace-clause-keeps : goal.returns-in-Err-replace-clause-keeps
returns-in-Err-replace-clause-keeps g c =
    let h = c.args.self.now.held in
    let set = c.in-Err-replace.ensures in
    let live = c.requires.live in
    keeps_table (g.P.Plant.view c.args.self.now.plant.now) (g.P.Plant.view c.replace.new.plant) h _ c.args.table.now (g.met.P.Plant.honest c.replace.new.plant) live c.requires.lawful
    set.touches (λ t. set.crash t h.table (live.stands t).table) (λ t. set.between t h.table (live.stands t).table) refl c.in_default.ensures.noted.effects (inl refl)

pub returns-clause-keeps : goal.returns-clause-keeps
returns-clause-keeps g c =
    let h = c.args.self.now.held in
    let set = c.in_default-replace.ensures in
    let live = c.requires.live in
    keeps_table (g.P.Plant.view c.args.self.now.plant.now) (g.P.Plant.view c.replace.new.plant) h _ c.args.table.now (g.met.P.Plant.honest c.replace.new.plant) live c.requires.lawful
    set.touches (λ t. set.crash t h.table (live.stands t).table) (λ t. set.between t h.table (live.stands t).table) refl c.in_default.ensures.noted.effects (inr (refl, λ t. (set.synced t, set.both t)))

pub returns-clause-live : goal.returns-clause-live
returns-clause-live g c = (returns-clause-keeps g c).live c.requires.live.live

pub returns-in-Err-replace-clause-leaves : goal.returns-in-Err-replace-clause-leaves
returns-in-Err-replace-clause-leaves g c = may_run (SetTable c.args.table.now) (g.P.Plant.view c.args.self.now.plant.now) (g.P.Plant.view c.replace.new.plant) c.args.self.now.held _
    (returns-in-Err-replace-clause-keeps g c) (record { effects = c.in_default.ensures.noted.effects; failed = refl })

pub returns-clause-leaves : goal.returns-clause-leaves
returns-clause-leaves g c = is_after (SetTable c.args.table.now) (g.P.Plant.view c.args.self.now.plant.now) (g.P.Plant.view c.replace.new.plant) c.args.self.now.held _
    (returns-clause-keeps g c) (record { effects = c.in_default.ensures.noted.effects; failed = c.requires.live.live })

pub returns-in-Err-clause-wears : goal.returns-in-Err-clause-wears
returns-in-Err-clause-wears g c = λ t. let v = g.P.Plant.view c.args.self.now.plant.now in writes_none Disk 66 v v refl
