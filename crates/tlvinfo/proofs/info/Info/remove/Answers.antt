use Rattle.std.proofs.Common.{◌≡◌, ◌==◌, sym, ap, subst, ◌∙◌}
use Rattle.std.specs.Prelude.{not, filter}
use Rattle.tlvinfo.specs.TlvInfo.{Field, AreFields}
use Rattle.tlvinfo.specs.View.{entry_field, fields_of}
use Rattle.tlvinfo.proofs.Edits.{AreFields-filter, filter-map}
use Rattle.tlvinfo.proofs.info.Info.remove.Goals as goal

is_filtered : (c : goal.After-retain_others) → fields_of c.retain_others.new.entries.items ≡ filter (λ (f : Field). not (f.code == c.args.code)) (fields_of c.self.inside.entries.items)
is_filtered c =
    ap fields_of c.retain_others.ensures ∙ sym (filter-map (λ (f : Field). not (f.code == c.args.code)) entry_field c.self.inside.entries.items)

pub invariant_of-self : goal.invariant_of-self
invariant_of-self c = subst AreFields (sym (is_filtered c)) (AreFields-filter _ _ c.self.invariant)

pub returns : goal.returns
returns c = is_filtered c ∙ ap (filter (λ (f : Field). not (f.code == c.args.code))) c.self.view_is
