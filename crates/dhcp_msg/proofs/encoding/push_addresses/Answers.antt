use Rattle.std.proofs.Common.{append_assoc}
use Rattle.dhcp_msg.specs.Spelling.{address_bytes}
use Rattle.dhcp_msg.proofs.encoding.push_addresses.Goals as goal

pub returns-clause-written : goal.returns-clause-written
unfolding address_bytes
returns-clause-written c =
    rw (c.in_ok-push_slice-6.ensures.pushed, c.in_ok-push_slice-5.ensures.pushed, c.in_ok-push_slice-4.ensures.pushed, c.in_ok-push_slice-3.ensures.pushed, c.in_ok-push_slice-2.ensures.pushed, c.in_ok-push_slice.ensures.pushed) (simp append_assoc)
