use Rattle.std.proofs.Common.{◌<◌, ℕ, get_or, arith}
use Rattle.bd_text.specs.V6.{PrintsGroups, v6_groups}
use Rattle.bd_text.proofs.PrintLemmas.{AreGroups-bytes, PrintsGroups-same, spelled-printed}
use Rattle.bd_text.proofs.v6.text_of.Goals as goal

pub returns : goal.returns
returns c =
    let bytes = c.args.bytes.now in
    let small : (i : ℕ) → get_or c.args.bytes.now i 0 < 256 = λ i. omega (arith, c.type_inv.bytes i) in
    let printed : PrintsGroups (v6_groups c.args.bytes.now) c.printed.result.bytes = rw c.groups_of.ensures at c.printed.ensures in
    record {
      printed = printed;
      one = λ other so. PrintsGroups-same (v6_groups bytes) other c.printed.result.bytes so printed;
      spelled = record { sixteen = record { size = c.requires; small = small }; groups = spelled-printed (v6_groups bytes) c.printed.result.bytes (AreGroups-bytes bytes small) printed };
    }
