use Rattle.std.proofs.Common.{◌≡◌, None, ap, ◌∙◌}
use Rattle.dhcp_msg.specs.Options.{value_of}
use Rattle.dhcp_msg.proofs.Joining.{AreDistinct-push}
use Rattle.dhcp_msg.proofs.options.Options.push.Goals as goal

pub invariant_of-self-2 : goal.invariant_of-self-2
invariant_of-self-2 c =
    let new : value_of c.args.code c.self.inside.entries.items ≡ None = ap (value_of c.args.code) c.self.view_is ∙ c.requires in
    rw c.in_ok-push.ensures.items (AreDistinct-push (record { code = c.args.code; value = c.args.value }) c.self.inside.entries.items c.self.invariant new)
