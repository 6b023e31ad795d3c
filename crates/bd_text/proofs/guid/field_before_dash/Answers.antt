use Rattle.std.proofs.Common.{◌≡◌, ◌∷◌, take, ap, ◌∙◌}
use Rattle.std.proofs.lemmas.List.{take_at}
use Rattle.bd_text.proofs.guid.field_before_dash.Goals as goal

pub returns-in_err-number-clause-only : goal.returns-in_err-number-clause-only
returns-in_err-number-clause-only c = λ n part rest spelled is.
    let front : take c.args.count c.args.text.now ≡ part = ap (take c.args.count) is ∙ take_at part (45 ∷ rest) c.args.count spelled.width in
    absurd (c.in_err-number.ensures.only n (rw (c.split_at.ensures.front, front) spelled))
