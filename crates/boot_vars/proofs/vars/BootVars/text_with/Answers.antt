use Rattle.std.proofs.Common.{ℕ, List, length, sym, ◌∙◌, ap, subst, arith}
use Rattle.boot_vars.specs.Places.{IsPlace}
use Rattle.boot_vars.specs.Setting.{with_variable}
use Rattle.storage_model.specs.Variables.{Spells, Variable}
use Rattle.boot_vars.proofs.Answering.{allowed, are_allowed, fits_within, none_refused}
use Rattle.boot_vars.proofs.Setting.{with_is_text, with_length, with_result}
use Rattle.boot_vars.proofs.vars.BootVars.text_with.Goals as goal

pub write_with-requires-clause-room : goal.write_with-requires-clause-room
write_with-requires-clause-room c =
    let v : Variable = record { name = c.args.name.now; value = c.args.value.now } in
    let vs = c.text.ensures.lines.0 in
    let spells = subst (λ (t : List ℕ). Spells t vs) c.text.ensures.bytes c.text.ensures.lines.1 in
    let is = allowed vs c.args.self.now.pair.number v (c.in_ok-may_set.ensures.answer vs spells) in
    let place = subst (λ (t : List ℕ). IsPlace t v.name c.place_of-place.result.at c.place_of-place.result.size) c.text.ensures.bytes c.place_of-place.ensures.place in
    let sizes = with_length c.args.self.now.text c.place_of-place.result.at c.place_of-place.result.size v vs place spells in
    let fits = fits_within (with_variable vs v) is.fits in
    let second = ap (λ (t : List ℕ). length t) c.text-2.ensures.bytes in
    omega (arith, sizes, fits, second)

pub returns-clause-lines : goal.returns-clause-lines
returns-clause-lines c = λ vs spells.
    let v : Variable = record { name = c.args.name.now; value = c.args.value.now } in
    with_result c.args.self.now.text c.text.result.now c.text-2.result.now v c.place_of-place.result.at c.place_of-place.result.size _ vs c.text.ensures.bytes c.text-2.ensures.bytes c.place_of-place.ensures.place spells c.write_with.ensures.bytes

pub returns-clause-vars : goal.returns-clause-vars
returns-clause-vars c =
    let v : Variable = record { name = c.args.name.now; value = c.args.value.now } in
    let vs = c.text.ensures.lines.0 in
    let spells = subst (λ (t : List ℕ). Spells t vs) c.text.ensures.bytes c.text.ensures.lines.1 in
    let is = allowed vs c.args.self.now.pair.number v (c.in_ok-may_set.ensures.answer vs spells) in
    let at = c.place_of-place.result.at in
    let size = c.place_of-place.result.size in
    let place = subst (λ (t : List ℕ). IsPlace t v.name at size) c.text.ensures.bytes c.place_of-place.ensures.place in
    let sizes = with_length c.args.self.now.text at size v vs place spells in
    let fits = fits_within (with_variable vs v) is.fits in
    let second = ap (λ (t : List ℕ). length t) c.text-2.ensures.bytes in
    let long = c.write_with.ensures.size in
    let lines = with_result c.args.self.now.text c.text.result.now c.text-2.result.now v at size _ vs c.text.ensures.bytes c.text-2.ensures.bytes c.place_of-place.ensures.place spells c.write_with.ensures.bytes in
    record {
      short = omega (arith, sizes, fits, second, long);
      lines = with_is_text c.args.self.now.text at size v _ vs place spells (are_allowed vs c.args.self.now.pair.number v is) lines;
    }

pub returns-clause-number : goal.returns-clause-number
returns-clause-number c =
    let v : Variable = record { name = c.args.name.now; value = c.args.value.now } in
    let vs = c.text.ensures.lines.0 in
    let spells = subst (λ (t : List ℕ). Spells t vs) c.text.ensures.bytes c.text.ensures.lines.1 in
    let answered = c.in_ok-may_set.ensures.answer vs spells in
    sym (allowed vs c.args.self.now.pair.number v answered).refusal ∙ none_refused _ answered
