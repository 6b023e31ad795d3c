use Rattle.std.proofs.Common.{append_assoc}
use Rattle.dhcp_msg.specs.Spelling.{head_bytes}
use Rattle.dhcp_msg.proofs.encoding.push_head.Goals as goal

pub returns-clause-written : goal.returns-clause-written
unfolding head_bytes
returns-clause-written c =
    rw (c.in_ok-push_slice-4.ensures.pushed, c.in_ok-push_slice-3.ensures.pushed, c.in_ok-push_slice-2.ensures.pushed, c.in_ok-push_slice.ensures.pushed, c.to_be_bytes.ensures, c.to_be_bytes-2.ensures) (simp append_assoc)
