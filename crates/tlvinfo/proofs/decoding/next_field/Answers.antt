use Rattle.std.proofs.Common.{◌≡◌, length, refl, sym, ap, ◌∙◌, arith, length-append}
use Rattle.std.proofs.lemmas.Bool.{ne_eqb}
use Rattle.std.proofs.lemmas.Result.{err_from_is_err_and}
use Rattle.tlvinfo.specs.RawView.{field_of}
use Rattle.tlvinfo.proofs.FieldTests.{checksum_length, field_at-tests, field_at-checksum, field_at-nothing, field_at-cut}
use Rattle.tlvinfo.proofs.decoding.next_field.Goals as goal

pub returns-then-left-eq0-clause-exact : goal.returns-then-left-eq0-clause-exact
returns-then-left-eq0-clause-exact c = field_at-nothing _ _ _ _ (sym c.left.ensures ∙ c.if-left-eq0.true)

pub returns-in_default-clause-exact : goal.returns-in_default-clause-exact
returns-in_default-clause-exact c = rw c.place-at.ensures (field_at-cut _ _ _ _ (λ none. c.if-left-eq0.false (c.left.ensures ∙ none)) (c.in_default.ensures.cut.0 refl))

pub returns-then-not-is_allowed-clause-exact : goal.returns-then-not-is_allowed-clause-exact
returns-then-not-is_allowed-clause-exact c =
    field_at-tests _ _ _ (field_of c.in-Ok.field) _ _ c.in-Ok.ensures.stands ∙ rw (sym c.is_allowed.ensures ∙ c.if-not-is_allowed.true) refl

pub test_checksum-requires-clause-inside : goal.test_checksum-requires-clause-inside
test_checksum-requires-clause-inside c =
    let four : length c.in-Ok.field.value.now ≡ 4 = checksum_length _ _ c.if-field.true (sym c.is_allowed.ensures ∙ c.if-not-is_allowed.false) in
    omega (arith, c.place-at.ensures, c.requires.inside, ap length c.in-Ok.ensures.stands, length-append c.in-Ok.field.value.now c.raw_field.new.cursor.left)

pub returns-in_err-test_checksum-clause-exact : goal.returns-in_err-test_checksum-clause-exact
returns-in_err-test_checksum-clause-exact c =
    let p = err_from_is_err_and c.from_residual.result c.from_residual.ensures.1 in
    rw (p.1, p.2) (field_at-checksum _ _ _ _ (field_of c.in-Ok.field) _ _ c.requires.here c.in-Ok.ensures.stands (sym c.is_allowed.ensures ∙ c.if-not-is_allowed.false) c.if-field.true c.place-at.ensures ∙ c.in_err-test_checksum.ensures)

pub returns-then-field-clause-exact : goal.returns-then-field-clause-exact
returns-then-field-clause-exact c =
    field_at-checksum _ _ _ _ (field_of c.in-Ok.field) _ _ c.requires.here c.in-Ok.ensures.stands (sym c.is_allowed.ensures ∙ c.if-not-is_allowed.false) c.if-field.true c.place-at.ensures
    ∙ c.in_ok-test_checksum.ensures

pub returns-then-is_repeated-clause-exact : goal.returns-then-is_repeated-clause-exact
returns-then-is_repeated-clause-exact c =
    field_at-tests _ _ _ (field_of c.in-Ok.field) _ _ c.in-Ok.ensures.stands
    ∙ rw (sym c.is_allowed.ensures ∙ c.if-not-is_allowed.false, ne_eqb _ _ c.if-field.false, sym c.is_repeated.ensures ∙ c.if-is_repeated.true) refl

pub returns-clause-exact : goal.returns-clause-exact
returns-clause-exact c =
    field_at-tests _ _ _ (field_of c.in-Ok.field) _ _ c.in-Ok.ensures.stands
    ∙ rw (sym c.is_allowed.ensures ∙ c.if-not-is_allowed.false, ne_eqb _ _ c.if-field.false, sym c.is_repeated.ensures ∙ c.if-is_repeated.false) refl
