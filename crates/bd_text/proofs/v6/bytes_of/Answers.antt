use Rattle.std.proofs.Common.{◌∙◌, ap, arith}
use Rattle.bd_text.specs.V6.{v6_groups}
use Rattle.bd_text.proofs.GroupLemmas.{length-written, small-written, v6_groups-written}
use Rattle.bd_text.proofs.v6.bytes_of.Goals as goal

pub returns : goal.returns
returns c =
    let groups = c.args.groups.now in
    let size = length-written c.args.groups.now in
    record {
      bytes = rw c.write_u16_into.ensures (record { size = omega (arith, c.requires); small = small-written groups });
      groups = ap v6_groups c.write_u16_into.ensures ∙ v6_groups-written groups (λ i. omega (arith, c.type_inv.groups i));
    }
