use Rattle.std.proofs.Common.{ap, ◌∙◌}
use Rattle.tlvinfo.specs.Identity.{value_of}
use Rattle.tlvinfo.specs.View.{fields_of}
use Rattle.tlvinfo.proofs.Fields.{IfSome-allowed}
use Rattle.tlvinfo.proofs.info.Info.get.Goals as goal

pub returns-clause-allowed : goal.returns-clause-allowed
returns-clause-allowed c =
    IfSome-allowed c.args.code (fields_of c.self.inside.entries.items) c.first_value.result c.self.invariant.each (c.first_value.ensures ∙ ap (λ entries. value_of c.args.code (fields_of entries)) c.deref.ensures.value)
