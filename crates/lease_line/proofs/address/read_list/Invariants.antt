use Rattle.std.proofs.Common.{◌≡◌, map, Some}
use Rattle.lease_line.specs.Addresses.{all_addresses}
use Rattle.lease_line.proofs.address.read_list.Given as goal

abbrev pub invariant-loop-part : goal.invariant-loop-part
invariant-loop-part l = all_addresses (map (λ x. x.now) l.yielded) ≡ Some l.bytes
