use Rattle.std.proofs.Common.{List, sym, subst, arith}
use Rattle.std.specs.List.{AllByRecursion}
use Rattle.dhcp_msg.specs.Messages.{IsWritable}
use Rattle.dhcp_msg.specs.declared.dhcp_option.DhcpOption.{DhcpOption}
use Rattle.lease_line.specs.Replies.{option}
use Rattle.lease_line.proofs.Written.{writable_more}
use Rattle.lease_line.proofs.reply.LeaseReply.add.Goals as goal

pub invariant_of-self-2 : goal.invariant_of-self-2
invariant_of-self-2 c =
    let small = c.if-size-value.false in
    let value = c.if-value-gt-LONGEST.false in
    let size = c.size_of-size.ensures in
    subst (λ (os : List DhcpOption). AllByRecursion IsWritable os) (sym c.in_ok-add.ensures.added)
    (writable_more (option c.args.code c.args.value.now) c.self.inside.options c.requires.no_pad c.requires.no_end c.requires.no_overload (omega (arith, small, value, size)) c.self.invariant)
