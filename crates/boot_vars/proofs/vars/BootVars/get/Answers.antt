use Rattle.std.proofs.Common.{ℕ, List, ◌∙◌, ap}
use Rattle.storage_model.specs.Variables.{value_of}
use Rattle.boot_vars.proofs.Listing.{listed}
use Rattle.boot_vars.proofs.vars.BootVars.get.Goals as goal

pub returns-clause-listed : goal.returns-clause-listed
returns-clause-listed c = λ vs spells.
    c.value_in.ensures ∙ ap (λ (l : List ℕ). value_of l c.args.name.now) c.text.ensures.bytes ∙ listed c.args.self.now.text c.args.name.now vs spells
