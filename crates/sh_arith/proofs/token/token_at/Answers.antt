use Rattle.std.proofs.Common.{◌≡◌, ◌∙◌, ℕ, ◌∷◌, None, false, ap, sym, rules, arith}
use Rattle.std.proofs.lemmas.Grind.{common_steps}
use Rattle.sh_arith.specs.Constant.{constant}
use Rattle.sh_arith.specs.Token.{front, number_or, token_at}
use Rattle.sh_arith.specs.Operator.{sign}
use Rattle.sh_arith.specs.Text.{Text, begins_name}
use Rattle.std.proofs.lemmas.Bool.Decides.{nat_tests}
use Rattle.sh_arith.proofs.Numerals.{number_read}
use Rattle.sh_arith.proofs.token.token_at.Goals as goal

front_constant : (t r : Text) (c : ℕ) → t ≡ c ∷ r → sign c ≡ None → (c ≡ 40 → ⊥) → begins_name c ≡ false → front t ≡ number_or (constant t)
front_constant t r c e s p b = rw e (rw (s, b) (grind (arith, nat_tests)))

pub returns-in-Some-constant-clause-token : goal.returns-in-Some-constant-clause-token
returns-in-Some-constant-clause-token c =
    let h = number_read _ _ c.in-Some-constant.ensures.reads in
    let none : sign c.in-Some.byte ≡ None = cc in
    let no_name : begins_name c.in-Some.byte ≡ false = cc in
    let e = ap front (sym c.skip-text.ensures.skipped) ∙ front_constant c.skip-text.result.now c.in-Some.rest.now c.in-Some.byte c.in-Some.ensures none c.if-byte-eq40.false no_name in
    (h.0, h.1, e ∙ h.2)
