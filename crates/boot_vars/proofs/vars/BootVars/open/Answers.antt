use Rattle.std.proofs.Common.{◌≡◌, inl, ℕ, List, take, Err, sym, ◌∙◌, ap, subst}
use Rattle.std.proofs.lemmas.Option.{same_Some}
use Rattle.slot_model.specs.Slots.{Stored}
use Rattle.storage_model.specs.Variables.{IsBadLine}
use Rattle.boot_vars.specs.declared.fault.VarsFault.TheVariants.{BadLine}
use Rattle.boot_vars.proofs.Kept.{kept as kept_of}
use Rattle.boot_vars.proofs.vars.BootVars.open.Goals as goal

pub returns-in-Some-clause-bad : goal.returns-in-Some-clause-bad
returns-in-Some-clause-bad g c = λ kept at tells is wrong.
    let opened = c.in_ok-pair.ensures in
    let read = c.in_ok-length.ensures.content (opened.looks.continues.still_tells tells) in
    let keeps = kept_of _ _ _ _ opened.looks tells opened.opened opened.place.0 opened.place.1 read in
    let content : kept.content ≡ take c.in_ok-length.length c.read.new.out = ap (λ (s : Stored). s.content) (same_Some _ _ (sym is ∙ keeps)) in
    let place = c.in-Some.ensures.only at (subst (λ (l : List ℕ). IsBadLine l at) content wrong) in
    inl (ap (λ (n : ℕ). Err (BadLine n)) (same_Some _ _ place))

pub returns-clause-bad : goal.returns-clause-bad
returns-clause-bad g c = λ kept at tells is wrong.
    let opened = c.in_ok-pair.ensures in
    let read = c.in_ok-length.ensures.content (opened.looks.continues.still_tells tells) in
    let keeps = kept_of _ _ _ _ opened.looks tells opened.opened opened.place.0 opened.place.1 read in
    let content : kept.content ≡ take c.in_ok-length.length c.read.new.out = ap (λ (s : Stored). s.content) (same_Some _ _ (sym is ∙ keeps)) in
    absurd (c.in_default.not-Some at (c.first_bad_line.ensures.only at (subst (λ (l : List ℕ). IsBadLine l at) content wrong)))
