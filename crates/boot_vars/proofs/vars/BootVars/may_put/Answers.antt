use Rattle.std.proofs.Common.{sym, ◌∙◌, ap}
use Rattle.std.proofs.lemmas.Bool.{both_ways}
use Rattle.boot_vars.specs.Setting.{answer}
use Rattle.boot_vars.specs.Vars.{Vars}
use Rattle.boot_vars.proofs.Answering.{last_is, not_last_is}
use Rattle.boot_vars.proofs.vars.BootVars.may_put.Goals as goal

pub returns-then-is_last : goal.returns-then-is_last
returns-then-is_last c = sym (ap answer (last_is c.args.self.now.pair.number (sym (ap (λ (x : Vars). x.pair.number) c.self.view_is) ∙ c.is_last.ensures.0 c.if-is_last.true)))

pub returns : goal.returns
returns c = sym (ap answer (not_last_is c.args.self.now.pair.number (λ same. both_ways c.is_last.result c.if-is_last.false (c.is_last.ensures.1 (ap (λ (x : Vars). x.pair.number) c.self.view_is ∙ same)))))
