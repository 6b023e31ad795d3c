use Rattle.std.proofs.Common.{ap, ◌∙◌, List, ℕ, Some}
use Rattle.lease_line.proofs.Octets.{address_none, address_read, in_v4}
use Rattle.lease_line.proofs.address.read_address.Goals as goal

pub returns-in-Ok : goal.returns-in-Ok
returns-in-Ok c = ap (λ (octets : List ℕ). Some (in_v4 octets)) c.octets.ensures ∙ address_read c.args.text.now c.in-Ok.address c.in-Ok.ensures

pub returns-in-Err : goal.returns-in-Err
returns-in-Err c = address_none c.args.text.now c.in-Err.ensures
