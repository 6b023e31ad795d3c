use Rattle.std.proofs.Common.{sym, ◌∙◌}
use Rattle.std.proofs.lemmas.Bool.{ne_eqb}
use Rattle.tlvinfo.specs.Editing.{has}
use Rattle.tlvinfo.specs.View.{entry_field}
use Rattle.tlvinfo.proofs.Lists.{position-map}
use Rattle.tlvinfo.proofs.editing.replaced.Goals as goal

pub returns : goal.returns
returns c =
    rw (ne_eqb c.args.code 0xfd c.if-code-eq-VENDOR_EXTENSION.false) (c.place_of.ensures ∙ sym (position-map (has c.args.code) entry_field c.args.entries.now))
