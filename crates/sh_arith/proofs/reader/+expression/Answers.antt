use Rattle.std.proofs.Common.{◌≡◌, ℕ, suc, Bool, not, ◌&&◌, if◌then◌else◌, ap, subst, Ok, Err, length, ◌<◌, ◌≤◌, ◌+◌, ◌-◌, max, arith, rules, refl, sym, ◌∙◌, ℤ, to_z, of_z, FitsSigned, w64}
use Rattle.std.proofs.lemmas.Result.{err_from_is_err_and}
use Rattle.std.proofs.lemmas.Int.{to_z-of_z}
use Rattle.sh_arith.proofs.Rules.{above, number_stands, number_not, name_stands, name_not, other_not, parens_deep, parens_not, parens_open, parens_stands, sign_deep, sign_not, sign_error, sign_stands, level_operand, left_not, left_leads, leads_stands, right_not, joined_not, joined_leads, test_not, test_stands, choice_deep, yes_not, colon_not, no_not, choice_stands}
use Rattle.sh_arith.specs.Number.{is_zero, needs_right}
use Rattle.sh_arith.specs.Text.{Text}
use Rattle.sh_arith.specs.Token.{number}
use Rattle.sh_arith.specs.Grammar.{Operand, Level, Conditional}
use Rattle.sh_arith.specs.Reading.{Stands, StandsNot, Comes}
use Rattle.sh_arith.specs.declared.reader.Found.{Found}
use Rattle.sh_arith.proofs.reader.+expression.Goals as goal

-- a number of 64 bits is what its bits say
as_bits : (P : ℤ → Type 0) (v : ℤ) → FitsSigned w64 v → P v → P (to_z w64 (of_z w64 v))
as_bits P v f h = subst P (sym (to_z-of_z w64 v f)) h

pub conditional-returns-in_default : goal.conditional-returns-in_default
conditional-returns-in_default t c = test_stands _ _ _ _ _ c.in_ok-test.ensures (sym c.in_default.ensures.follows)

pub conditional-returns-then-test-depth : goal.conditional-returns-then-test-depth
conditional-returns-then-test-depth t c = choice_deep _ _ _ _ _ c.in_ok-test.ensures _ (sym c.in-Some.ensures.follows) (omega arith)

pub conditional-returns-in_err-yes : goal.conditional-returns-in_err-yes
conditional-returns-in_err-yes t c =
    let p = err_from_is_err_and c.from_residual-in_err-yes.result c.from_residual-in_err-yes.ensures.1 in
    let more : c.args.depth ≡ suc (c.args.depth - 1) = omega arith in
    let ft : FitsSigned w64 c.in_ok-test.test.value = search rules in
    let e = c.both.ensures ∙ ap (λ z. c.args.needed && not z) c.is_zero-fails.ensures ∙ ap (λ x. c.args.needed && not (is_zero x)) (to_z-of_z w64 c.in_ok-test.test.value ft) in
    rw p.1 (yes_not _ _ _ _ _ c.in_ok-test.ensures _ (sym c.in-Some.ensures.follows) _ more (subst (λ (b : Bool). StandsNot Conditional c.args.variables.now (c.args.depth - 1) b c.in-Some.rest.now) e c.in_err-yes.ensures))

pub conditional-returns-in_default-after : goal.conditional-returns-in_default-after
conditional-returns-in_default-after t c =
    let more : c.args.depth ≡ suc (c.args.depth - 1) = omega arith in
    let ft : FitsSigned w64 c.in_ok-test.test.value = search rules in
    let e = c.both.ensures ∙ ap (λ z. c.args.needed && not z) c.is_zero-fails.ensures ∙ ap (λ x. c.args.needed && not (is_zero x)) (to_z-of_z w64 c.in_ok-test.test.value ft) in
    colon_not _ _ _ _ _ c.in_ok-test.ensures _ (sym c.in-Some.ensures.follows) _ more _ (subst (λ (b : Bool). Stands Conditional c.args.variables.now (c.args.depth - 1) b c.in-Some.rest.now c.in_ok-yes.yes) e c.in_ok-yes.ensures) (sym c.in_default-after.ensures.follows)

pub conditional-returns-in_err-no : goal.conditional-returns-in_err-no
conditional-returns-in_err-no t c =
    let p = err_from_is_err_and c.from_residual-in_err-no.result c.from_residual-in_err-no.ensures.1 in
    let more : c.args.depth ≡ suc (c.args.depth - 1) = omega arith in
    let ft : FitsSigned w64 c.in_ok-test.test.value = search rules in
    let e = c.both.ensures ∙ ap (λ z. c.args.needed && not z) c.is_zero-fails.ensures ∙ ap (λ x. c.args.needed && not (is_zero x)) (to_z-of_z w64 c.in_ok-test.test.value ft) in
    let f = c.both-2.ensures ∙ ap (λ z. c.args.needed && z) c.is_zero-fails.ensures ∙ ap (λ x. c.args.needed && is_zero x) (to_z-of_z w64 c.in_ok-test.test.value ft) in
    rw p.1 (no_not _ _ _ _ _ c.in_ok-test.ensures _ (sym c.in-Some.ensures.follows) _ more _ (subst (λ (b : Bool). Stands Conditional c.args.variables.now (c.args.depth - 1) b c.in-Some.rest.now c.in_ok-yes.yes) e c.in_ok-yes.ensures) _ (sym c.in-Some-after.ensures.follows) (subst (λ (b : Bool). StandsNot Conditional c.args.variables.now (c.args.depth - 1) b c.in-Some-after.rest.now) f c.in_err-no.ensures))

pub conditional-returns : goal.conditional-returns
conditional-returns t c =
    let more : c.args.depth ≡ suc (c.args.depth - 1) = omega arith in
    let low : c.in_ok-test.test.height ≤ c.args.depth - 1 = omega arith in
    let ft : FitsSigned w64 c.in_ok-test.test.value = search rules in
    let e = c.both.ensures ∙ ap (λ z. c.args.needed && not z) c.is_zero-fails.ensures ∙ ap (λ x. c.args.needed && not (is_zero x)) (to_z-of_z w64 c.in_ok-test.test.value ft) in
    let f = c.both-2.ensures ∙ ap (λ z. c.args.needed && z) c.is_zero-fails.ensures ∙ ap (λ x. c.args.needed && is_zero x) (to_z-of_z w64 c.in_ok-test.test.value ft) in
    let fc : FitsSigned w64 c.chosen.result = search rules in
    let fn : FitsSigned w64 c.in_ok-no.no.value = search rules in
    let fy : FitsSigned w64 c.in_ok-yes.yes.value = search rules in
    let h : 1 + c.max-2.result ≡ 1 + max c.in_ok-test.test.height (max c.in_ok-yes.yes.height c.in_ok-no.no.height) = omega (arith, c.max.ensures, c.max-2.ensures) in
    let v : to_z w64 (of_z w64 c.chosen.result) ≡ (if is_zero c.in_ok-test.test.value then c.in_ok-no.no.value else c.in_ok-yes.yes.value) =
    to_z-of_z w64 c.chosen.result fc ∙ c.chosen.ensures ∙ ap (λ b. if b then to_z w64 (of_z w64 c.in_ok-no.no.value) else to_z w64 (of_z w64 c.in_ok-yes.yes.value)) c.is_zero-fails.ensures ∙ rw (to_z-of_z w64 c.in_ok-test.test.value ft, to_z-of_z w64 c.in_ok-no.no.value fn, to_z-of_z w64 c.in_ok-yes.yes.value fy) refl in
    choice_stands _ _ _ _ _ c.in_ok-test.ensures _ (sym c.in-Some.ensures.follows) _ more _ (subst (λ (b : Bool). Stands Conditional c.args.variables.now (c.args.depth - 1) b c.in-Some.rest.now c.in_ok-yes.yes) e c.in_ok-yes.ensures) _ (sym c.in-Some-after.ensures.follows) _ (subst (λ (b : Bool). Stands Conditional c.args.variables.now (c.args.depth - 1) b c.in-Some-after.rest.now c.in_ok-no.no) f c.in_ok-no.ensures) low _ _ v h (omega (arith, c.in_ok-no.ensures.shorter, c.in_ok-yes.ensures.shorter, c.in_ok-test.ensures.shorter, c.in-Some.ensures.shorter, c.in-Some-after.ensures.shorter))

pub level-returns-then-looseness-eq0 : goal.level-returns-then-looseness-eq0
level-returns-then-looseness-eq0 t c = level_operand _ _ _ _ _ _ c.if-looseness-eq0.true c.operand.ensures

pub level-returns-in_err-left : goal.level-returns-in_err-left
level-returns-in_err-left t c =
    let p = err_from_is_err_and c.from_residual.result c.from_residual.ensures.1 in
    rw p.1 (left_not _ _ _ _ _ _ (above c.args.looseness c.if-looseness-eq0.false) c.in_err-left.ensures)

pub level-chain-init : goal.level-chain-init
level-chain-init t c =
    let e = above c.args.looseness c.if-looseness-eq0.false in
    (left_leads _ _ _ _ _ _ e _ c.in_ok-left.ensures, e)

pub level-returns-in_default : goal.level-returns-in_default
level-returns-in_default t c = leads_stands _ _ _ _ _ _ c.chain.invariant.1 _ c.chain.invariant.0 (sym c.in_default.ensures.operator)

pub level-returns-in_err-right : goal.level-returns-in_err-right
level-returns-in_err-right t c =
    let p = err_from_is_err_and c.from_residual-in_err-right.result c.from_residual-in_err-right.ensures.1 in
    let fl : FitsSigned w64 c.chain.left.value = search rules in
    let e = c.both-needs.ensures ∙ ap (λ z. c.args.needed && z) c.needs_right.ensures ∙ ap (λ x. c.args.needed && needs_right c.in-Some.operator x) (to_z-of_z w64 c.chain.left.value fl) in
    rw p.1 (right_not _ _ _ _ _ _ c.chain.invariant.1 _ c.chain.invariant.0 _ _ (sym c.in-Some.ensures.operator) (subst (λ (b : Bool). StandsNot (Level (c.args.looseness - 1)) c.args.variables.now c.args.depth b c.in-Some.rest.now) e c.in_err-right.ensures))

pub level-returns-in_err-value : goal.level-returns-in_err-value
level-returns-in_err-value t c =
    let p = err_from_is_err_and c.from_residual-in_err-value.result c.from_residual-in_err-value.ensures.1 in
    let fl : FitsSigned w64 c.chain.left.value = search rules in
    let e = c.both-needs.ensures ∙ ap (λ z. c.args.needed && z) c.needs_right.ensures ∙ ap (λ x. c.args.needed && needs_right c.in-Some.operator x) (to_z-of_z w64 c.chain.left.value fl) in
    let fr : FitsSigned w64 c.in_ok-right.right.value = search rules in
    let g = rw (to_z-of_z w64 c.chain.left.value fl, to_z-of_z w64 c.in_ok-right.right.value fr) at c.apply.ensures in
    rw p.1 (joined_not _ _ _ _ _ _ c.chain.invariant.1 _ c.chain.invariant.0 _ _ (sym c.in-Some.ensures.operator) _ (subst (λ (b : Bool). Stands (Level (c.args.looseness - 1)) c.args.variables.now c.args.depth b c.in-Some.rest.now c.in_ok-right.right) e c.in_ok-right.ensures) _ g c.in_err-value.field-0.0 c.in_err-value.ensures)

pub level-chain-preserved : goal.level-chain-preserved
level-chain-preserved t c =
    let fl : FitsSigned w64 c.chain.left.value = search rules in
    let e = c.both-needs.ensures ∙ ap (λ z. c.args.needed && z) c.needs_right.ensures ∙ ap (λ x. c.args.needed && needs_right c.in-Some.operator x) (to_z-of_z w64 c.chain.left.value fl) in
    let f : FitsSigned w64 c.in_ok-value.value = search rules in
    let fr : FitsSigned w64 c.in_ok-right.right.value = search rules in
    let g = rw (to_z-of_z w64 c.chain.left.value fl, to_z-of_z w64 c.in_ok-right.right.value fr) at c.apply.ensures in (
      as_bits (λ v. Rattle.sh_arith.proofs.Rules.Leads c.args.variables.now c.args.depth c.args.needed (c.args.looseness - 1) c.args.looseness c.args.text.now (record { value = v; height = c.max.result; rest = c.in_ok-right.right.rest })) c.in_ok-value.value f
          (joined_leads _ _ _ _ _ _ c.chain.invariant.1 _ c.chain.invariant.0 _ _ (sym c.in-Some.ensures.operator) _ (subst (λ (b : Bool). Stands (Level (c.args.looseness - 1)) c.args.variables.now c.args.depth b c.in-Some.rest.now c.in_ok-right.right) e c.in_ok-right.ensures) _ g _ _ c.in_ok-value.ensures c.max.ensures (omega (arith, c.in_ok-right.ensures.shorter, c.in-Some.ensures.shorter, c.chain.invariant.0.shorter))),
      c.chain.invariant.1,
    )

pub operand-returns-in_err-value-in-Constant : goal.operand-returns-in_err-value-in-Constant
operand-returns-in_err-value-in-Constant t c =
    let p = err_from_is_err_and c.from_residual.result c.from_residual.ensures.1 in
    let read = c.in-Constant.ensures.token in
    rw p.1 (number_not _ _ _ _ _ _ c.in_err-value-in-Constant.field-0.0 read.2 (subst (λ o. Comes c.args.needed o (Err c.in_err-value-in-Constant.field-0.0)) (c.positive.ensures _ read.1.number) c.in_err-value-in-Constant.ensures))

pub operand-returns-in_err-value-in-Name : goal.operand-returns-in_err-value-in-Name
operand-returns-in_err-value-in-Name t c =
    let p = err_from_is_err_and c.from_residual-in_err-value-in-Name.result c.from_residual-in_err-value-in-Name.ensures.1 in
    rw p.1 (name_not _ _ _ _ _ _ c.in_err-value-in-Name.field-0.0 c.in-Name.ensures.token (subst (λ o. Comes c.args.needed o (Err c.in_err-value-in-Name.field-0.0)) c.named.ensures c.in_err-value-in-Name.ensures))

pub operand-returns-in_default : goal.operand-returns-in_default
operand-returns-in_default t c =
    parens_open _ _ _ _ _ c.in-Opens.ensures.token _ (above c.args.depth c.if-depth-eq0.false) _ c.in_ok-inner-in-Opens.ensures (sym c.in_default.ensures.follows)

pub operand-returns-in-Some : goal.operand-returns-in-Some
operand-returns-in-Some t c =
    let f : FitsSigned w64 c.in_ok-inner-in-Opens.inner.value = search rules in
    as_bits (λ v. Stands Operand c.args.variables.now c.args.depth c.args.needed c.args.text.now (record { value = v; height = c.in_ok-inner-in-Opens.inner.height + 1; rest = c.in-Some.rest })) c.in_ok-inner-in-Opens.inner.value f
    (parens_stands _ _ _ _ _ c.in-Opens.ensures.token _ (above c.args.depth c.if-depth-eq0.false) _ c.in_ok-inner-in-Opens.ensures _ (sym c.in-Some.ensures.follows) (omega (arith, c.in-Some.ensures.shorter, c.in_ok-inner-in-Opens.ensures.shorter, c.in-Opens.ensures.shorter)))

pub operand-returns-in_err-value-in-Sign : goal.operand-returns-in_err-value-in-Sign
operand-returns-in_err-value-in-Sign t c =
    let p = err_from_is_err_and c.from_residual-in_err-value-in-Sign.result c.from_residual-in_err-value-in-Sign.ensures.1 in
    let f : FitsSigned w64 c.in_ok-inner-in-Sign.inner.value = search rules in
    let u = rw (to_z-of_z w64 c.in_ok-inner-in-Sign.inner.value f) at c.apply.ensures in
    rw p.1 (sign_error _ _ _ _ _ _ c.in-Sign.ensures.token _ (above c.args.depth c.if-depth-eq0-2.false) _ c.in_ok-inner-in-Sign.ensures c.in_err-value-in-Sign.field-0.0 (subst (λ o. Comes c.args.needed o (Err c.in_err-value-in-Sign.field-0.0)) u c.in_err-value-in-Sign.ensures))

pub operand-returns-in_ok-value-in-Constant : goal.operand-returns-in_ok-value-in-Constant
operand-returns-in_ok-value-in-Constant t c =
    let f : FitsSigned w64 c.in_ok-value-in-Constant.value = search rules in
    let read = c.in-Constant.ensures.token in
    let v = c.in_ok-value-in-Constant.value in
    as_bits (λ v. Stands Operand c.args.variables.now c.args.depth c.args.needed c.args.text.now (record { value = v; height = 0; rest = c.in-Constant.numeral.rest })) v f
    (number_stands _ _ _ _ read.0.0 v _ (read.2 ∙ ap (number read.0.0) (sym read.1.rest)) c.in-Constant.ensures.shorter (subst (λ o. Comes c.args.needed o (Ok v)) (c.positive.ensures _ read.1.number) c.in_ok-value-in-Constant.ensures))

pub operand-returns-in_ok-value-in-Name : goal.operand-returns-in_ok-value-in-Name
operand-returns-in_ok-value-in-Name t c =
    let f : FitsSigned w64 c.in_ok-value-in-Name.value = search rules in
    let v = c.in_ok-value-in-Name.value in
    as_bits (λ v. Stands Operand c.args.variables.now c.args.depth c.args.needed c.args.text.now (record { value = v; height = 0; rest = c.in-Name.rest })) v f
    (name_stands _ _ _ _ _ v _ c.in-Name.ensures.token c.in-Name.ensures.shorter (subst (λ o. Comes c.args.needed o (Ok v)) c.named.ensures c.in_ok-value-in-Name.ensures))

pub operand-returns-in_ok-value-in-Sign : goal.operand-returns-in_ok-value-in-Sign
operand-returns-in_ok-value-in-Sign t c =
    let f : FitsSigned w64 c.in_ok-value-in-Sign.value = search rules in
    let fi : FitsSigned w64 c.in_ok-inner-in-Sign.inner.value = search rules in
    let v = c.in_ok-value-in-Sign.value in
    let u = rw (to_z-of_z w64 c.in_ok-inner-in-Sign.inner.value fi) at c.apply.ensures in
    as_bits (λ v. Stands Operand c.args.variables.now c.args.depth c.args.needed c.args.text.now (record { value = v; height = c.in_ok-inner-in-Sign.inner.height + 1; rest = c.in_ok-inner-in-Sign.inner.rest })) v f
    (sign_stands _ _ _ _ _ _ c.in-Sign.ensures.token _ (above c.args.depth c.if-depth-eq0-2.false) _ c.in_ok-inner-in-Sign.ensures v (subst (λ o. Comes c.args.needed o (Ok v)) u c.in_ok-value-in-Sign.ensures) (omega (arith, c.in_ok-inner-in-Sign.ensures.shorter, c.in-Sign.ensures.shorter)))
