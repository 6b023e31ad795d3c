use Rattle.std.proofs.Common.{ℕ, List, false, true, sym, ◌∙◌, subst, arith}
use Rattle.boot_vars.specs.Places.{IsPlace}
use Rattle.boot_vars.proofs.Answering.{handed_on, none_refused, unset_is}
use Rattle.boot_vars.proofs.Setting.{absent, present, without_is_text, without_result}
use Rattle.storage_model.specs.Variables.{Spells}
use Rattle.boot_vars.proofs.vars.BootVars.text_without.Goals as goal

pub returns-then-place-eq0-clause-refusal : goal.returns-then-place-eq0-clause-refusal
returns-then-place-eq0-clause-refusal c = λ vs spells.
    let none = absent c.args.self.now.text c.args.name.now c.place_of-place.result.at c.place_of-place.result.size vs (subst (λ (t : List ℕ). IsPlace t c.args.name.now c.place_of-place.result.at c.place_of-place.result.size) c.text.ensures.bytes c.place_of-place.ensures.place) spells c.if-place-eq0.true in
    sym (unset_is vs c.args.self.now.pair.number c.args.name.now true (sym c.is_name.ensures ∙ c.if-not-is_name.false) none)

pub returns-then-place-eq0-clause-there : goal.returns-then-place-eq0-clause-there
returns-then-place-eq0-clause-there c = λ vs spells.
    sym (absent c.args.self.now.text c.args.name.now c.place_of-place.result.at c.place_of-place.result.size vs (subst (λ (t : List ℕ). IsPlace t c.args.name.now c.place_of-place.result.at c.place_of-place.result.size) c.text.ensures.bytes c.place_of-place.ensures.place) spells c.if-place-eq0.true)

pub returns-in_err-may_put-clause-refusal : goal.returns-in_err-may_put-clause-refusal
returns-in_err-may_put-clause-refusal c = λ vs spells.
    let some = present c.args.self.now.text c.args.name.now c.place_of-place.result.at c.place_of-place.result.size vs (subst (λ (t : List ℕ). IsPlace t c.args.name.now c.place_of-place.result.at c.place_of-place.result.size) c.text.ensures.bytes c.place_of-place.ensures.place) spells (let other = c.if-place-eq0.false in omega (arith)) in
    let is = unset_is vs c.args.self.now.pair.number c.args.name.now false (sym c.is_name.ensures ∙ c.if-not-is_name.false) some in
    handed_on c.from_residual.result c.in_err-may_put.field-0.0 _ c.from_residual.ensures.1 c.in_err-may_put.ensures ∙ sym is

pub returns-clause-there : goal.returns-clause-there
returns-clause-there c = λ vs spells.
    sym (present c.args.self.now.text c.args.name.now c.place_of-place.result.at c.place_of-place.result.size vs (subst (λ (t : List ℕ). IsPlace t c.args.name.now c.place_of-place.result.at c.place_of-place.result.size) c.text.ensures.bytes c.place_of-place.ensures.place) spells (let other = c.if-place-eq0.false in omega (arith)))

pub returns-clause-lines : goal.returns-clause-lines
returns-clause-lines c = λ vs spells.
    without_result c.args.self.now.text c.text.result.now c.text-2.result.now c.args.name.now c.place_of-place.result.at c.place_of-place.result.size _ vs c.text.ensures.bytes c.text-2.ensures.bytes c.place_of-place.ensures.place spells c.write_without.ensures.bytes

pub returns-clause-vars : goal.returns-clause-vars
returns-clause-vars c =
    let vs = c.text.ensures.lines.0 in
    let spells = subst (λ (t : List ℕ). Spells t vs) c.text.ensures.bytes c.text.ensures.lines.1 in
    let at = c.place_of-place.result.at in
    let size = c.place_of-place.result.size in
    let place = subst (λ (t : List ℕ). IsPlace t c.args.name.now at size) c.text.ensures.bytes c.place_of-place.ensures.place in
    let long = c.write_without.ensures.size in
    let short = c.text-2.ensures.short in
    record {
      short = omega (arith, long, short);
      lines = without_is_text c.args.self.now.text c.args.name.now at size _ vs place spells (without_result c.args.self.now.text c.text.result.now c.text-2.result.now c.args.name.now at size _ vs c.text.ensures.bytes c.text-2.ensures.bytes c.place_of-place.ensures.place spells c.write_without.ensures.bytes);
    }

pub returns-clause-number : goal.returns-clause-number
returns-clause-number c = none_refused _ c.in_ok-may_put.ensures
