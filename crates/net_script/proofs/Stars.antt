-- A star is no number.
use Rattle.std.proofs.Common.{◌≡◌, ℕ, List, codes, Result, Ok, refl, sym, subst, arith}
use Rattle.std.specs.Str.Parse.{IsNumeral}
use Rattle.std.proofs.lemmas.Fmt.{decimal_is_IsNumeral}
use Rattle.net_script.specs.Numbers.{SpellsNumber, SpellsRounds}
use Rattle.net_script.specs.declared.line.Rounds.{Rounds}
use Rattle.net_script.specs.declared.line.Rounds.TheVariants.{All, One}

no_number : (n : ℕ) → SpellsNumber 1 99 n (codes "*") → ⊥
no_number n spelled =
    let high = spelled.high in
    let numeral = (decimal_is_IsNumeral n (omega (arith, high))).0 in
    let star : IsNumeral 10 (codes "*") = subst (IsNumeral 10) (sym spelled.digits) numeral in
    let digit = star.1.0 in
    absurd (omega (arith, digit))

pub all_rounds : {E : Type 0} (word : List ℕ) (rounds : Rounds) → word ≡ codes "*" → SpellsRounds rounds word → ◌≡◌ {A = Result Rounds E} (Ok rounds) (Ok All)
all_rounds word All star spelled = refl
all_rounds word (One n) star spelled = absurd (no_number n (subst (SpellsNumber 1 99 n) star spelled))
