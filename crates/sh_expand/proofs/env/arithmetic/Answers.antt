use Rattle.std.proofs.Common.{◌≡◌, refl, ap, subst, Ok, Err, IsErr, ◌↔◌, ℤ, FitsSigned, w64, rules}
use Rattle.std.proofs.lemmas.Int.{to_z-of_z}
use Rattle.sh_arith.specs.Names.{Variables}
use Rattle.sh_expand.specs.declared.fault.ExpandFault.TheVariants.{Bad}
use Rattle.sh_arith.specs.Grammar.{IsValue}
use Rattle.sh_expand.proofs.Variables.{ok_values, ok_bad, err_values, err_bad}
use Rattle.sh_expand.proofs.env.arithmetic.Goals as goal

pub returns-in-Ok-clause-value : goal.returns-in-Ok-clause-value
returns-in-Ok-clause-value c =
    let given = c.evaluate.result in
    let values = subst (λ (vars : Variables). (v : ℤ) → (given ≡ Ok v) ↔ IsValue vars c.args.text.now v) c.variables.ensures c.evaluate.ensures.value in
    let bad = subst (λ (vars : Variables). IsErr given ↔ ((v : ℤ) → IsValue vars c.args.text.now v → ⊥)) c.variables.ensures c.evaluate.ensures.bad in
    let f : FitsSigned w64 c.in-Ok.value = search rules in
    ok_values (IsValue c.args.env.now.variables c.args.text.now) given values bad c.in-Ok.value c.in-Ok.is _ (ap (λ v. Ok v) (to_z-of_z w64 c.in-Ok.value f))

pub returns-in-Ok-clause-bad : goal.returns-in-Ok-clause-bad
returns-in-Ok-clause-bad c =
    let given = c.evaluate.result in
    let values = subst (λ (vars : Variables). (v : ℤ) → (given ≡ Ok v) ↔ IsValue vars c.args.text.now v) c.variables.ensures c.evaluate.ensures.value in
    let bad = subst (λ (vars : Variables). IsErr given ↔ ((v : ℤ) → IsValue vars c.args.text.now v → ⊥)) c.variables.ensures c.evaluate.ensures.bad in
    let f : FitsSigned w64 c.in-Ok.value = search rules in
    ok_bad (IsValue c.args.env.now.variables c.args.text.now) given values bad c.in-Ok.value c.in-Ok.is _ (ap (λ v. Ok v) (to_z-of_z w64 c.in-Ok.value f)) _

pub returns-in-Err-clause-value : goal.returns-in-Err-clause-value
returns-in-Err-clause-value c =
    let given = c.evaluate.result in
    let values = subst (λ (vars : Variables). (v : ℤ) → (given ≡ Ok v) ↔ IsValue vars c.args.text.now v) c.variables.ensures c.evaluate.ensures.value in
    let bad = subst (λ (vars : Variables). IsErr given ↔ ((v : ℤ) → IsValue vars c.args.text.now v → ⊥)) c.variables.ensures c.evaluate.ensures.bad in
    err_values (IsValue c.args.env.now.variables c.args.text.now) given values bad c.in-Err.field-0 c.in-Err.is (Err Bad) Bad refl

pub returns-in-Err-clause-bad : goal.returns-in-Err-clause-bad
returns-in-Err-clause-bad c =
    let given = c.evaluate.result in
    let values = subst (λ (vars : Variables). (v : ℤ) → (given ≡ Ok v) ↔ IsValue vars c.args.text.now v) c.variables.ensures c.evaluate.ensures.value in
    let bad = subst (λ (vars : Variables). IsErr given ↔ ((v : ℤ) → IsValue vars c.args.text.now v → ⊥)) c.variables.ensures c.evaluate.ensures.bad in
    err_bad (IsValue c.args.env.now.variables c.args.text.now) given values bad c.in-Err.field-0 c.in-Err.is (Err Bad) Bad refl
