use Rattle.std.proofs.Common.{◌≡◌, List, Some, None, sym, ap, subst, ◌∙◌}
use Rattle.std.proofs.lemmas.Result.{err_from_is_err_and}
use Rattle.tlvinfo.specs.declared.info.Entry.{Entry}
use Rattle.tlvinfo.specs.TlvInfo.{AreFields}
use Rattle.tlvinfo.specs.Editing.{with_value, replaced_place}
use Rattle.tlvinfo.specs.View.{fields_of}
use Rattle.tlvinfo.proofs.Edits.{AreFields-with_value, fields-set, fields-push, IsField-tested, has_room-not}
use Rattle.tlvinfo.proofs.info.Info.set.Goals as goal

-- the field that is replaced
place : (c : goal.After-self-1) → Some c.in-Some.place ≡ replaced_place c.args.code (fields_of c.self.inside.entries.items)
place c =
    sym c.in-Some.is ∙ c.replaced-place.ensures ∙ ap (λ (es : List Entry). replaced_place c.args.code (fields_of es)) c.deref.ensures.value

pub invariant_of-self : goal.invariant_of-self
invariant_of-self c =
    let is_field = IsField-tested c.args.code c.args.value.now c.if-code-eq-CHECKSUM.false (sym c.if-not-can_hold.ensures) in
    subst AreFields (sym (fields-set _ _ _ _ _ (place c) c.entry-entry.ensures)) (AreFields-with_value _ _ _ _ (place c) is_field c.self.invariant)

pub returns-in-Some-clause-set : goal.returns-in-Some-clause-set
returns-in-Some-clause-set c =
    fields-set _ _ _ _ _ (place c) c.entry-entry.ensures ∙ ap (with_value c.args.code c.args.value.now) c.self.view_is

pub invariant_of-self-in-Continue-1 : goal.invariant_of-self-in-Continue-1
invariant_of-self-in-Continue-1 c =
    let none : None ≡ replaced_place c.args.code (fields_of c.self.inside.entries.items) = sym c.in-None.is ∙ c.replaced-place.ensures ∙ ap (λ (es : List Entry). replaced_place c.args.code (fields_of es)) c.deref.ensures.value in
    let is_field = IsField-tested c.args.code c.args.value.now c.if-code-eq-CHECKSUM.false (sym c.if-not-can_hold.ensures) in
    subst AreFields (sym (ap fields_of c.in_ok-push-in-None.ensures.items ∙ fields-push _ _ _ _ none c.entry-entry.ensures)) (AreFields-with_value _ _ _ _ none is_field c.self.invariant)

pub returns-in_err-push-in-None-clause-too_long : goal.returns-in_err-push-in-None-clause-too_long
returns-in_err-push-in-None-clause-too_long c =
    let p = err_from_is_err_and c.from_residual.result c.from_residual.ensures.1 in
    rw (p.1, p.2) (
      λ e. absurd cc,
      λ no. absurd (has_room-not c.args.code c.args.value.now c.args.self.now (fields_of c.deref-2.result.now) c.replaced-place.result (ap fields_of c.deref-2.ensures.value ∙ c.self.view_is)
          (c.replaced-place.ensures ∙ ap (λ (es : List Entry). replaced_place c.args.code (fields_of es)) c.deref.ensures.value ∙ ap (replaced_place c.args.code) c.self.view_is) (c.has_room.ensures.0 c.if-not-has_room.false) no),
    )
