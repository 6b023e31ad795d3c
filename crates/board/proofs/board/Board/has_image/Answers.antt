use Rattle.std.proofs.Common.{refl}
use Rattle.board.proofs.Keeping.{keeps_look}
use Rattle.board.proofs.board.Board.has_image.Goals as goal

pub returns-in-Ok-clause-keeps : goal.returns-in-Ok-clause-keeps
returns-in-Ok-clause-keeps g c = keeps_look (g.P.Plant.view c.args.self.now.plant.now) (g.P.Plant.view c.has_onie_image.new.plant) c.args.self.now.held _
    (g.met.P.Plant.honest c.has_onie_image.new.plant) c.requires.live c.in-Ok.ensures.looks refl refl refl

pub returns-in-Err-clause-keeps : goal.returns-in-Err-clause-keeps
returns-in-Err-clause-keeps g c = keeps_look (g.P.Plant.view c.args.self.now.plant.now) (g.P.Plant.view c.has_onie_image.new.plant) c.args.self.now.held _
    (g.met.P.Plant.honest c.has_onie_image.new.plant) c.requires.live c.in-Err.ensures.looks refl refl refl

pub returns-in-Ok-clause-live : goal.returns-in-Ok-clause-live
returns-in-Ok-clause-live g c = (returns-in-Ok-clause-keeps g c).live c.requires.live.live
