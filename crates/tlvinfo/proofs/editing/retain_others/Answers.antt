use Rattle.std.proofs.Common.{◌==◌, rules}
use Rattle.std.specs.Prelude.{not}
use Rattle.std.proofs.lemmas.Fn.{filter_same}
use Rattle.tlvinfo.specs.declared.info.Entry.{Entry}
use Rattle.tlvinfo.proofs.editing.retain_others.Goals as goal

pub returns : goal.returns
returns c =
    filter_same _ (λ (e : Entry). not (e.code == c.args.code)) _ (λ x b f' h. search rules) _ _ c.retain.ensures.filtered
