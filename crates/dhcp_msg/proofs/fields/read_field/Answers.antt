use Rattle.std.proofs.Common.{◌≡◌, ◌+◌, ◌-◌, ◌≤◌, length, Some, None, drop, sym, ap, subst, ◌∙◌, arith}
use Rattle.bd_bytes.specs.Cursor.{At, passed}
use Rattle.dhcp_msg.specs.Reading.{value_at}
use Rattle.dhcp_msg.proofs.FieldLoop.{Along, Along-first, Along-pad, Along-option, Along-cut, Along-end}
use Rattle.dhcp_msg.proofs.Steps.{cut_at}
use Rattle.dhcp_msg.proofs.fields.read_field.Goals as goal

pub loop-code-init : goal.loop-code-init
loop-code-init c =
    subst (λ (at : At). Along c.args.is_overloaded c.args.place c.args.field.now c.args.options.now at.place at.left c.args.options.now) (sym c.new-cursor.ensures) (Along-first _ _ _ _)

pub loop-code-preserved-then-code-eq-PAD : goal.loop-code-preserved-then-code-eq-PAD
loop-code-preserved-then-code-eq-PAD c =
    subst (λ (at : At). Along c.args.is_overloaded c.args.place c.args.field.now c.args.options.now at.place at.left c.loop-code.options) (sym c.in-Some.ensures.moved.1) (
    Along-pad _ _ _ _ _ _ _ c.in-Some.code c.loop-code.invariant (sym c.in-Some.ensures.code) c.if-code-eq-PAD.true
    )

pub returns-in_default-counted_bytes : goal.returns-in_default-counted_bytes
returns-in_default-counted_bytes c =
    let moved = c.in-Some.ensures.moved.1 in
    let none : value_at (drop 1 c.loop-code.cursor.left) ≡ None = ap (λ (at : At). value_at at.left) (sym moved) ∙ c.in_default-counted_bytes.ensures in
    let at : c.args.place + c.loop-code.cursor.place ≡ c.args.place + c.place.result - 1 = omega (arith, c.place.ensures, ap (λ (at : At). at.place) moved) in
    Along-cut _ _ _ _ _ _ _ c.in-Some.code c.loop-code.invariant (sym c.in-Some.ensures.code) c.if-code-eq-PAD.false none ∙ ap cut_at at

pub loop-code-preserved : goal.loop-code-preserved
loop-code-preserved c =
    let value = c.in-Ok.value.now in
    let moved = c.in-Some.ensures.moved.1 in
    let found : value_at (drop 1 c.loop-code.cursor.left) ≡ Some value = ap (λ (at : At). value_at at.left) (sym moved) ∙ c.in-Ok.ensures.0 in
    let fits = subst (λ (at : At). 1 + length value ≤ length at.left) moved c.in-Ok.ensures.1 in
    let behind = c.in-Ok.ensures.2 ∙ ap (passed (1 + length value)) moved in
    subst (λ (at : At). Along c.args.is_overloaded c.args.place c.args.field.now c.args.options.now at.place at.left c.count.new.options) (sym behind) (
    Along-option _ _ _ _ _ _ _ c.in-Some.code value _ c.loop-code.invariant (sym c.in-Some.ensures.code) c.if-code-eq-PAD.false found fits c.in_ok-count.ensures
    )

pub returns : goal.returns
returns c = Along-end _ _ _ _ _ _ _ c.loop-code.invariant (sym c.next_code.ensures.code ∙ c.in_default.is)
