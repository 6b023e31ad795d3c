use Rattle.bd_sim.proofs.Calls.{write_between, write_bytes, write_marks, write_state, write_time}
use Rattle.bd_sim.proofs.plant.SimPlantPlant.write.Goals as goal

pub returns-clause-bytes : goal.returns-clause-bytes
returns-clause-bytes c = λ t. write_bytes c.write_area.result c.args.self.now c.write_area.new.self c.args.area c.args.lba c.args.bytes.now c.requires.whole c.write_area.ensures.written

pub returns-clause-marked : goal.returns-clause-marked
returns-clause-marked c = λ t. write_marks c.write_area.result c.args.self.now c.write_area.new.self c.args.area c.args.lba c.args.bytes.now c.requires.whole c.write_area.ensures.written

pub returns-clause-state : goal.returns-clause-state
returns-clause-state c = λ t. write_state c.write_area.result c.args.self.now c.write_area.new.self c.args.area c.args.lba c.args.bytes.now c.requires.whole c.write_area.ensures.written c.write_area.ensures.failed

pub returns-clause-time : goal.returns-clause-time
returns-clause-time c = write_time c.write_area.result c.args.self.now c.write_area.new.self c.args.area c.args.lba c.args.bytes.now c.write_area.ensures.written c.write_area.ensures.failed

pub returns-clause-between : goal.returns-clause-between
returns-clause-between c = λ t. write_between c.write_area.result c.args.self.now c.write_area.new.self c.args.area c.args.lba c.args.bytes.now c.write_area.ensures.written c.write_area.ensures.failed
