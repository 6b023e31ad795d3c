use Rattle.std.proofs.Common.{arith}
use Rattle.bd_bytes.proofs.Division.{Divides-even, Divides-odd}
use Rattle.bd_bytes.proofs.crc.after_bit.Goals as goal

pub returns-then-register-eq1 : goal.returns-then-register-eq1
returns-then-register-eq1 c = Divides-odd c.args.register (omega arith) c.if-register-eq1.true

pub returns-else-register-eq1 : goal.returns-else-register-eq1
returns-else-register-eq1 c = Divides-even c.args.register (omega arith) c.if-register-eq1.false
