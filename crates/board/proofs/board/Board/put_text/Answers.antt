use Rattle.std.proofs.Common.{take, inl, inr, refl}
use Rattle.cuts.specs.declared.effect.Effect.TheVariants.{Vars as SetVars}
use Rattle.board.proofs.Keeping.{keeps_still}
use Rattle.board.proofs.Leaving.{is_after, may_run}
use Rattle.boot_vars.proofs.Changing.{wears_now}
use Rattle.board.proofs.VariableChanges.{is_lawful_text, keeps_vars}
use Rattle.board.proofs.board.Board.put_text.Goals as goal

pub returns-in-Err-clause-keeps : goal.returns-in-Err-clause-keeps
returns-in-Err-clause-keeps g c =
    let h = c.args.self.now.held in
    keeps_still (g.P.Plant.view c.args.self.now.plant.now) h _ (g.met.P.Plant.honest c.args.self.now.plant.now) c.requires.live
    (λ i. record { table = h.table; vars = h.vars; journal = c.in-Err.ensures.unchanged i; failed = h.failed })

pub returns-in-Err-store-clause-keeps : goal.returns-in-Err-store-clause-keeps
returns-in-Err-store-clause-keeps g c =
    keeps_vars (g.P.Plant.view c.args.self.now.plant.now) (g.P.Plant.view c.store.new.plant) c.args.self.now.held _ _ (is_lawful_text c.args.self.now.held.vars.pair.number c.args.length _ c.requires.lines c.requires.number) (g.met.P.Plant.honest c.store.new.plant) c.requires.live
    c.in-Err-store.ensures.changes refl c.in_default.ensures.noted.effects (inl refl)

pub returns-clause-keeps : goal.returns-clause-keeps
returns-clause-keeps g c =
    keeps_vars (g.P.Plant.view c.args.self.now.plant.now) (g.P.Plant.view c.store.new.plant) c.args.self.now.held _ _ (is_lawful_text c.args.self.now.held.vars.pair.number c.args.length _ c.requires.lines c.requires.number) (g.met.P.Plant.honest c.store.new.plant) c.requires.live
    c.in_default-store.ensures.changes refl c.in_default.ensures.noted.effects (inr (c.in_default-store.ensures.set, c.in_default-store.ensures.durable))

pub returns-clause-live : goal.returns-clause-live
returns-clause-live g c = (returns-clause-keeps g c).live c.requires.live.live

pub returns-in-Err-store-clause-leaves : goal.returns-in-Err-store-clause-leaves
returns-in-Err-store-clause-leaves g c = may_run (SetVars (take c.args.length c.args.text.now)) (g.P.Plant.view c.args.self.now.plant.now) (g.P.Plant.view c.store.new.plant) c.args.self.now.held _
    (returns-in-Err-store-clause-keeps g c) (record { effects = c.in_default.ensures.noted.effects; failed = refl })

pub returns-clause-leaves : goal.returns-clause-leaves
returns-clause-leaves g c = is_after (SetVars (take c.args.length c.args.text.now)) (g.P.Plant.view c.args.self.now.plant.now) (g.P.Plant.view c.store.new.plant) c.args.self.now.held _
    (returns-clause-keeps g c) (record { effects = c.in_default.ensures.noted.effects; failed = c.requires.live.live })

pub returns-in-Err-clause-wears : goal.returns-in-Err-clause-wears
returns-in-Err-clause-wears g c = wears_now (g.P.Plant.view c.args.self.now.plant.now) _

pub returns-in-Err-store-clause-wears : goal.returns-in-Err-store-clause-wears
returns-in-Err-store-clause-wears g c = c.in-Err-store.ensures.wears

pub returns-clause-wears : goal.returns-clause-wears
returns-clause-wears g c = c.in_default-store.ensures.wears
