use Rattle.std.proofs.Common.{ℕ, ◌-◌, length, append_assoc, arith, refl}
use Rattle.std.proofs.lemmas.List.{take-replicate}
use Rattle.dhcp_msg.proofs.encoding.push_text.Goals as goal

pub returns : goal.returns
returns c =
    rw (c.in_ok-push_slice-2.ensures.pushed, c.in_ok-push_slice.ensures.pushed, c.as_slice-text.ensures) (rw append_assoc (rw (take-replicate {X = ℕ} (c.args.size - length c.args.text.now) 128 0 (omega arith)) refl))
