use Rattle.std.proofs.Common.{◌≡◌, ◌∙◌, inl, None, Some, Option, Ok, Err, refl, ap, subst}
use Rattle.boot_vars.specs.declared.fault.VarFault.{VarFault}
use Rattle.cuts.specs.declared.effect.Effect.TheVariants.{Vars as SetVars}
use Rattle.boot_vars.specs.Setting.{without}
use Rattle.storage_model.specs.Variables.{lines_of}
use Rattle.board.specs.Changes.{IsAnswer, of_var_refusal}
use Rattle.board.proofs.Keeping.{keeps_now}
use Rattle.boot_vars.proofs.Changing.{wears_now}
use Rattle.board.proofs.VariableChanges.{refused_answer, refused_effect, refused_leaves}
use Rattle.boot_vars.proofs.Setting.{absent_refusal}
use Rattle.board.proofs.board.Board.unset_var.Goals as goal

pub returns-in_err-length-clause-answer : goal.returns-in_err-length-clause-answer
returns-in_err-length-clause-answer g c = λ vs spells.
    refused_answer c.from_residual.result c.in_err-length.field-0.0 _ c.from_residual.ensures.1 (c.in_err-length.ensures.refusal vs spells)

pub returns-in_err-length-clause-effect : goal.returns-in_err-length-clause-effect
returns-in_err-length-clause-effect g c = λ vs spells some.
    refused_effect _ _ c.args.self.now.held c.from_residual.result c.in_err-length.field-0.0 refl c.from_residual.ensures.1 (λ e. c.in_err-length.ensures.never (ap Err e))

pub returns-in_err-length-clause-keeps : goal.returns-in_err-length-clause-keeps
returns-in_err-length-clause-keeps g c =
    keeps_now (g.P.Plant.view c.args.self.now.plant.now) c.args.self.now.held (g.met.P.Plant.honest c.args.self.now.plant.now) c.requires.live

pub returns-in-None-clause-answer : goal.returns-in-None-clause-answer
returns-in-None-clause-answer g c = λ vs spells.
    subst (λ (o : Option VarFault). IsAnswer (of_var_refusal o) (Ok tt)) (c.in_ok-length.ensures.refusal vs spells) (inl refl)

pub returns-in-None-clause-keeps : goal.returns-in-None-clause-keeps
returns-in-None-clause-keeps g c =
    keeps_now (g.P.Plant.view c.args.self.now.plant.now) c.args.self.now.held (g.met.P.Plant.honest c.args.self.now.plant.now) c.requires.live

pub returns-in_err-length-clause-done : goal.returns-in_err-length-clause-done
returns-in_err-length-clause-done g c = λ vs spells none named.
    let same : Some c.in_err-length.field-0.0 ≡ None = c.in_err-length.ensures.refusal vs spells ∙ absent_refusal vs _ _ none named in
    cc

pub returns-in_err-length-clause-leaves : goal.returns-in_err-length-clause-leaves
returns-in_err-length-clause-leaves g c = λ vs spells some.
    refused_leaves (SetVars (lines_of (without vs c.args.name.now))) (g.P.Plant.view c.args.self.now.plant.now) (g.P.Plant.view c.args.self.now.plant.now) c.args.self.now.held c.args.self.now.held c.from_residual.result c.in_err-length.field-0.0 c.from_residual.ensures.1 (λ e. c.in_err-length.ensures.never (ap Err e))

pub returns-in_err-length-clause-wears : goal.returns-in_err-length-clause-wears
returns-in_err-length-clause-wears g c = λ vs spells. wears_now (g.P.Plant.view c.args.self.now.plant.now) _

pub returns-in-None-clause-wears : goal.returns-in-None-clause-wears
returns-in-None-clause-wears g c = λ vs spells. wears_now (g.P.Plant.view c.args.self.now.plant.now) _
