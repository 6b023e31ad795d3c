use Rattle.bd_sim.proofs.Calls.{sync_between, sync_durable, sync_state, sync_time}
use Rattle.bd_sim.proofs.plant.SimPlantPlant.sync.Goals as goal

pub returns-clause-durable : goal.returns-clause-durable
returns-clause-durable c = λ t. sync_durable c.sync_area.result c.args.self.now c.sync_area.new.self c.args.area c.sync_area.ensures.synced

pub returns-clause-state : goal.returns-clause-state
returns-clause-state c = λ t. sync_state c.sync_area.result c.args.self.now c.sync_area.new.self c.args.area c.sync_area.ensures.synced c.sync_area.ensures.failed

pub returns-clause-time : goal.returns-clause-time
returns-clause-time c = sync_time c.sync_area.result c.args.self.now c.sync_area.new.self c.args.area c.sync_area.ensures.synced c.sync_area.ensures.failed

pub returns-clause-between : goal.returns-clause-between
returns-clause-between c = λ t. sync_between c.sync_area.result c.args.self.now c.sync_area.new.self c.args.area c.sync_area.ensures.synced c.sync_area.ensures.failed
