use Rattle.bd_sim.proofs.Crashes.{crashes}
use Rattle.bd_sim.proofs.Opening.{on_ok_always}
use Rattle.bd_sim.proofs.plant.SimPlant.image.Goals as goal

pub returns-clause-crash : goal.returns-clause-crash
returns-clause-crash c = on_ok_always c.left_by.result _ (crashes c.args.self.now c.args.moment c.args.picks.now c.requires)
