use Rattle.std.proofs.Common.{is_err}
use Rattle.bd_sim.proofs.Calls.{between_counted, reads_only}
use Rattle.bd_sim.proofs.plant.SimPlantPlant.read.Goals as goal

pub returns-clause-state : goal.returns-clause-state
returns-clause-state c = λ t. reads_only c.args.self.now c.read_area.new.self (is_err c.read_area.result) c.read_area.ensures.counted

pub returns-clause-between : goal.returns-clause-between
returns-clause-between c = λ t. between_counted c.read_area.result c.args.self.now c.read_area.new.self (is_err c.read_area.result) c.read_area.ensures.counted
