use Rattle.std.proofs.Common.{eqb, sym}
use Rattle.dhcp_msg.proofs.Lists.{before_first-some, before_first-none}
use Rattle.dhcp_msg.proofs.layout.before_zero.Goals as goal

pub returns-in-Some : goal.returns-in-Some
returns-in-Some c = before_first-some (λ b. eqb b 0) c.args.field.now c.in-Some.end (sym c.in-Some.ensures)

pub returns-in-None : goal.returns-in-None
returns-in-None c = before_first-none (λ b. eqb b 0) c.args.field.now (sym c.in-None.ensures)
