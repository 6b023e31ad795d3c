use Rattle.std.proofs.Common.{◌≡◌, ℕ, take, subst, arith}
use Rattle.status_text.specs.StatusText.{shown_name}
use Rattle.status_text.proofs.Texts.{name_is}
use Rattle.status_text.proofs.name.shown_bytes.Goals as goal

pub returns-then-unit-eq0-clause-text : goal.returns-then-unit-eq0-clause-text
returns-then-unit-eq0-clause-text c = name_is c.loop-place.text c.args.name.now c.loop-place.place c.loop-place.invariant.shown (omega (arith, c.told-name)) c.loop-place.invariant.none_before (λ lt. c.if-unit-eq0.true)

pub returns-clause-text : goal.returns-clause-text
returns-clause-text c =
    let ends : c.loop-place.place ≡ 36 = omega (arith, c.loop-place-test.false, c.loop-place.auto.place-end) in
    subst (λ (n : ℕ). take n c.loop-place.text ≡ shown_name c.args.name.now) ends
    (name_is c.loop-place.text c.args.name.now c.loop-place.place c.loop-place.invariant.shown (omega (arith, c.told-name)) c.loop-place.invariant.none_before (λ lt. absurd (omega (arith, c.told-name))))
