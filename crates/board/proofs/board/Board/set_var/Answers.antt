use Rattle.std.proofs.Common.{◌≡◌, List, ℕ, Option, Err, refl, ap, subst}
use Rattle.boot_vars.specs.declared.fault.VarFault.{VarFault}
use Rattle.cuts.specs.declared.effect.Effect.TheVariants.{Vars as SetVars}
use Rattle.board.specs.Changes.{Does, IsAnswer, of_var_refusal}
use Rattle.boot_vars.specs.Setting.{WearsFor, with_variable}
use Rattle.storage_model.specs.Variables.{lines_of}
use Rattle.board.specs.Held.{Leaves}
use Rattle.board.proofs.Keeping.{keeps_now}
use Rattle.boot_vars.proofs.Changing.{wears_now}
use Rattle.board.proofs.VariableChanges.{refused_answer, refused_effect, refused_leaves}
use Rattle.board.proofs.board.Board.set_var.Goals as goal

pub returns-in_err-length-clause-answer : goal.returns-in_err-length-clause-answer
returns-in_err-length-clause-answer g c = λ vs spells.
    refused_answer c.from_residual.result c.in_err-length.field-0.0 _ c.from_residual.ensures.1 (c.in_err-length.ensures.refusal vs spells)

pub returns-in_err-length-clause-effect : goal.returns-in_err-length-clause-effect
returns-in_err-length-clause-effect g c = λ vs spells.
    refused_effect _ _ c.args.self.now.held c.from_residual.result c.in_err-length.field-0.0 refl c.from_residual.ensures.1 (λ e. c.in_err-length.ensures.never (ap Err e))

pub returns-in_err-length-clause-keeps : goal.returns-in_err-length-clause-keeps
returns-in_err-length-clause-keeps g c =
    keeps_now (g.P.Plant.view c.args.self.now.plant.now) c.args.self.now.held (g.met.P.Plant.honest c.args.self.now.plant.now) c.requires.live

pub returns-clause-answer : goal.returns-clause-answer
returns-clause-answer g c = λ vs spells.
    subst (λ (o : Option VarFault). IsAnswer (of_var_refusal o) c.put_text.result) (c.in_ok-length.ensures.refusal vs spells) c.put_text.ensures.answer

pub returns-clause-effect : goal.returns-clause-effect
returns-clause-effect g c = λ vs spells.
    subst (λ (t : List ℕ). Does (SetVars t) (c.put_text.new.self.plant.now ≡ c.args.self.now.plant.now) c.put_text.result c.args.self.now.held c.put_text.new.self.held)
    (c.in_ok-length.ensures.lines vs spells) c.put_text.ensures.effect

pub returns-in_err-length-clause-leaves : goal.returns-in_err-length-clause-leaves
returns-in_err-length-clause-leaves g c = λ vs spells.
    refused_leaves (SetVars (lines_of (with_variable vs (record { name = c.args.name.now; value = c.args.value.now })))) (g.P.Plant.view c.args.self.now.plant.now) (g.P.Plant.view c.args.self.now.plant.now) c.args.self.now.held c.args.self.now.held c.from_residual.result c.in_err-length.field-0.0 c.from_residual.ensures.1 (λ e. c.in_err-length.ensures.never (ap Err e))

pub returns-clause-leaves : goal.returns-clause-leaves
returns-clause-leaves g c = λ vs spells.
    subst (λ (t : List ℕ). Leaves (SetVars t) c.put_text.result (g.P.Plant.view c.args.self.now.plant.now) c.args.self.now.held (g.P.Plant.view c.put_text.new.self.plant.now) c.put_text.new.self.held)
    (c.in_ok-length.ensures.lines vs spells) c.put_text.ensures.leaves

pub returns-in_err-length-clause-wears : goal.returns-in_err-length-clause-wears
returns-in_err-length-clause-wears g c = λ vs spells. wears_now (g.P.Plant.view c.args.self.now.plant.now) _

pub returns-clause-wears : goal.returns-clause-wears
returns-clause-wears g c = λ vs spells.
    subst (λ (t : List ℕ). WearsFor t (g.P.Plant.view c.args.self.now.plant.now) (g.P.Plant.view c.put_text.new.self.plant.now))
    (c.in_ok-length.ensures.lines vs spells) c.put_text.ensures.wears
