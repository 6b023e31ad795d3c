use Rattle.std.proofs.Common.{◌≡◌, ◌-◌, ◌/◌, ◌%◌, ◌∷◌, [], get_or, refl, ◌∙◌, arith, append_assoc}
use Rattle.std.proofs.lemmas.List.{append-nil}
use Rattle.bd_text.specs.Digits.{numeral, digits_in}
use Rattle.bd_text.proofs.DigitLemmas.{numeral-none, numeral-more}
use Rattle.bd_text.proofs.digits.+push_numeral.Goals as goal

pub returns-then-count-gt0-clause-bytes : goal.returns-then-count-gt0-clause-bytes
returns-then-count-gt0-clause-bytes t c =
    let more = numeral-more c.args.letters c.args.base c.args.count c.args.number c.if-count-gt0.true in
    c.push_ascii.ensures.bytes ∙ rw (c.push_numeral.ensures.bytes, c.digit.ensures.digit, more) (append_assoc c.args.text.now.bytes (numeral c.args.letters c.args.base (c.args.count - 1) (c.args.number / c.args.base)) (get_or (digits_in c.args.letters) (c.args.number % c.args.base) 0 ∷ []))

pub returns-else-count-gt0-clause-bytes : goal.returns-else-count-gt0-clause-bytes
returns-else-count-gt0-clause-bytes t c =
    let none : c.args.count ≡ 0 = omega arith in
    rw (none, numeral-none c.args.letters c.args.base c.args.number, append-nil) refl
