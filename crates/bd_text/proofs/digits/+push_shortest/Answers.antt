use Rattle.std.proofs.Common.{◌/◌, ◌%◌, ◌∷◌, [], get_or, refl, ◌∙◌, append_assoc}
use Rattle.std.proofs.Math.Nat.{mod-eq_of_lt}
use Rattle.bd_text.specs.Digits.{digits_in, shortest}
use Rattle.bd_text.proofs.ShortestLemmas.{shortest-small, shortest-large}
use Rattle.bd_text.proofs.digits.+push_shortest.Goals as goal
use Rattle.bd_text.proofs.digits.+push_shortest.Goals.{then-number-base, else-number-base}

pub returns-clause-bytes : goal.returns-clause-bytes
returns-clause-bytes t c =
    let n = c.args.number in
    let base = c.args.base in
    let letters = c.args.letters in
    let high = c.requires.high in
    let low = c.requires.low in
    elim c.if-number-base.branch [
      | then-number-base w ↦
          c.push_ascii.ensures.bytes
          ∙ rw (w.text-is, w.push_shortest.ensures.bytes, c.digit.ensures.digit, shortest-large letters base high n low w.if-number-base.true)
          (append_assoc c.args.text.now.bytes (shortest letters base (n / base)) (get_or (digits_in letters) (n % base) 0 ∷ []))
      | else-number-base w ↦
          c.push_ascii.ensures.bytes
          ∙ rw (w.text-is, c.digit.ensures.digit, mod-eq_of_lt w.if-number-base.false, shortest-small letters base high n low w.if-number-base.false) refl
    ]
