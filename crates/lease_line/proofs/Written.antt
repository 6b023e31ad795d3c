-- Options that can be written, and one value more.
use Rattle.std.proofs.Common.{◌≡◌, ◌≢◌, ◌+◌, ◌≤◌, Bool, true, false, eqb, List, [], ◌∷◌, length, refl, arith, length-append}
use Rattle.std.specs.List.{AllByRecursion}
use Rattle.dhcp_msg.specs.Adding.{added}
use Rattle.dhcp_msg.specs.Messages.{IsWritable}
use Rattle.dhcp_msg.specs.declared.dhcp_option.DhcpOption.{DhcpOption}
use Rattle.lease_line.specs.Replies.{size_of}

pub writable_more : (o : DhcpOption) (os : List DhcpOption) → o.code ≢ 0 → o.code ≢ 255 → o.code ≢ 52 → size_of o.code os + length o.value ≤ 255
    → AllByRecursion IsWritable os → AllByRecursion IsWritable (added o os)
writable_more o [] no_pad no_end no_overload short all =
    (record { code = record { no_pad = no_pad; no_end = no_end }; no_overload = no_overload; short = omega (arith, short) }, tt)
writable_more o (p ∷ os) no_pad no_end no_overload short all = by (λ h. writable_more o os no_pad no_end no_overload h all.1) (eqb p.code o.code) refl
  where
    by : (size_of o.code os + length o.value ≤ 255 → AllByRecursion IsWritable (added o os)) → (b : Bool) → eqb p.code o.code ≡ b → AllByRecursion IsWritable (added o (p ∷ os))
    by next true e =
        let h : length p.value + length o.value ≤ 255 = rw e at short in
        let whole = length-append p.value o.value in
        rw e (record { code = record { no_pad = all.0.code.no_pad; no_end = all.0.code.no_end }; no_overload = all.0.no_overload; short = omega (arith, h, whole) }, all.1)
    by next false e = rw e (all.0, next (rw e at short))
