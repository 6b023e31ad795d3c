use Rattle.std.proofs.Common.{◌≡◌, Err, sym, ◌∙◌, ap, subst}
use Rattle.std.proofs.lemmas.Option.{same_Some}
use Rattle.boot_vars.proofs.BadLines.{no_bad_line}
use Rattle.slot_model.specs.Slots.{Stored}
use Rattle.storage_model.specs.Variables.{IsText}
use Rattle.soundness.proofs.judging.open_vars.Goals as goal

pub returns-in-Err-BadLine-clause-held : goal.returns-in-Err-BadLine-clause-held
returns-in-Err-BadLine-clause-held g c = λ t kept holds.
    let at = c.in-Err-BadLine.field-0-0 in
    let bad = c.open.ensures.bad_line at t (c.in-Err-BadLine.is ∙ ap Err c.in-Err-BadLine.field-0-is) in
    let same : kept ≡ bad.0 = same_Some kept bad.0 (sym holds.is ∙ bad.1) in
    no_bad_line bad.0.content at (subst (λ (s : Stored). IsText s.content) same holds.text) bad.2
