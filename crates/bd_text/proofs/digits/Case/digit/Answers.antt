use Rattle.std.proofs.Common.{◌<◌, ℕ, ltb, true, refl, get_or, rules}
use Rattle.std.proofs.lemmas.Bool.{agree_below_at, ltb-true}
use Rattle.bd_text.specs.declared.digits.Case.{Case}
use Rattle.bd_text.specs.declared.digits.Case.TheVariants.{Lower, Upper}
use Rattle.bd_text.specs.Digits.{digits_in}
use Rattle.bd_text.proofs.digits.Case.digit.Goals as goal
use Rattle.bd_text.proofs.digits.Case.digit.Goals.{in-Lower, in-Upper}

-- each printed digit is an ASCII character
ascii : (letters : Case) (value : ℕ) → value < 16 → get_or (digits_in letters) value 0 < 128
ascii Lower value small = ltb-true _ _ (agree_below_at (λ d. ltb (get_or (digits_in Lower) d 0) 128) (λ d. true) 16 value refl small)
ascii Upper value small = ltb-true _ _ (agree_below_at (λ d. ltb (get_or (digits_in Upper) d 0) 128) (λ d. true) 16 value refl small)

pub returns : goal.returns
returns c =
    let printed = ascii c.args.self c.args.value c.requires in
    elim c.match-self.branch [ in-Lower w ↦ search rules | in-Upper w ↦ search rules ]
