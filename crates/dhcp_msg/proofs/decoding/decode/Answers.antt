use Rattle.std.proofs.Common.{subst}
use Rattle.dhcp_msg.specs.Reading.{Gives}
use Rattle.dhcp_msg.proofs.Messages.{is_complete, is_found}
use Rattle.dhcp_msg.proofs.decoding.decode.Goals as goal

pub returns-clause-found : goal.returns-clause-found
returns-clause-found c = is_found c.args.bytes.now c.read.result c.read.ensures

pub returns-clause-only : goal.returns-clause-only
returns-clause-only c = λ message is. subst (Gives c.read.result) (is_complete c.args.bytes.now message is) c.read.ensures
