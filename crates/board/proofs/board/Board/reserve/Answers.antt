use Rattle.std.proofs.Common.{refl}
use Rattle.board.proofs.Keeping.{keeps_held}
use Rattle.board.proofs.board.Board.reserve.Goals as goal

pub returns-clause-keeps : goal.returns-clause-keeps
returns-clause-keeps g c = keeps_held (g.P.Plant.view c.args.self.now.plant.now) c.args.self.now.held _ (g.met.P.Plant.honest c.args.self.now.plant.now) c.requires.live
    refl refl c.reserve.ensures.effects refl

pub returns-clause-live : goal.returns-clause-live
returns-clause-live g c = (returns-clause-keeps g c).live c.requires.live.live
