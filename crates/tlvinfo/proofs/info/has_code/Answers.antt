use Rattle.std.proofs.Common.{sym, ◌∙◌}
use Rattle.std.specs.Prelude.{◌==◌}
use Rattle.tlvinfo.specs.TlvInfo.{Field}
use Rattle.tlvinfo.specs.View.{entry_field}
use Rattle.tlvinfo.proofs.Lists.{list_any-map}
use Rattle.tlvinfo.proofs.info.has_code.Goals as goal

pub returns : goal.returns
returns c = c.any_has.ensures ∙ sym (list_any-map (λ (f : Field). f.code == c.args.code) entry_field c.args.entries.now)
