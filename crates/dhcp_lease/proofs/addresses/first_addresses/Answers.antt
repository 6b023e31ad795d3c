use Rattle.std.proofs.Common.{ℕ, List, ap, ◌∙◌, arith}
use Rattle.bd_text.specs.declared.v4.V4.{V4}
use Rattle.dhcp_lease.proofs.Quads.{Along-next}
use Rattle.dhcp_lease.proofs.addresses.first_addresses.Goals as goal

pub each-preserved : goal.each-preserved
each-preserved c =
    let address : List ℕ → V4 = λ bytes. record { bytes = bytes } in
    Along-next c.args.value.now c.each.found.items c.each.left.now (address c.copy_from_slice.new.self) c.split_at.result.1.now c.push.new.self.items c.each.invariant (omega (arith, c.len.ensures.value)) (omega arith)
    (ap address (c.copy_from_slice.ensures.after ∙ c.split_at.ensures.front)) c.split_at.ensures.back c.push.ensures.items
