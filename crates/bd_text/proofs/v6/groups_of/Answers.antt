use Rattle.std.proofs.Common.{◌≡◌, ◌∙◌, sym, length, arith}
use Rattle.std.proofs.lemmas.List.{ext_get_or}
use Rattle.bd_text.specs.V6.{v6_groups}
use Rattle.bd_text.proofs.GroupLemmas.{length-v6_groups, v6_groups-at}
use Rattle.bd_text.proofs.v6.groups_of.Goals as goal

pub returns : goal.returns
returns c =
    let bytes = c.args.bytes.now in
    let size : length (v6_groups c.args.bytes.now) ≡ 8 = length-v6_groups 8 c.args.bytes.now (c.requires ∙ omega arith) in
    ext_get_or 0 c.read_u16_into.new.dst (v6_groups bytes) (c.read_u16_into.auto.dst ∙ sym size) (λ k inside. c.read_u16_into.ensures k inside ∙ sym (v6_groups-at bytes k (omega (arith, c.read_u16_into.auto.dst))))
