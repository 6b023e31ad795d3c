use Rattle.std.proofs.Common.{refl}
use Rattle.board.proofs.Keeping.{keeps_look}
use Rattle.board.proofs.board.Board.read.Goals as goal

pub returns-in-Err-clause-keeps : goal.returns-in-Err-clause-keeps
returns-in-Err-clause-keeps g c = keeps_look (g.P.Plant.view c.args.self.now.plant.now) (g.P.Plant.view c.read_sectors.new.plant) c.args.self.now.held _
    (g.met.P.Plant.honest c.read_sectors.new.plant) c.requires.live c.in-Err.ensures.looks refl refl refl

pub returns-clause-keeps : goal.returns-clause-keeps
returns-clause-keeps g c = keeps_look (g.P.Plant.view c.args.self.now.plant.now) (g.P.Plant.view c.read_sectors.new.plant) c.args.self.now.held _
    (g.met.P.Plant.honest c.read_sectors.new.plant) c.requires.live c.in_default.ensures.looks refl refl refl

pub returns-clause-live : goal.returns-clause-live
returns-clause-live g c = (returns-clause-keeps g c).live c.requires.live.live
