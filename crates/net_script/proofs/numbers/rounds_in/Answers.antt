use Rattle.std.proofs.Common.{◌≡◌, codes, sym, rules}
use Rattle.net_script.proofs.numbers.rounds_in.Goals as goal
use Rattle.net_script.proofs.Stars.{all_rounds}

pub returns-then-eq-clause-only : goal.returns-then-eq-clause-only
returns-then-eq-clause-only c = λ rounds spelled.
    let star : c.args.word.now ≡ codes "*" = search rules in
    sym (all_rounds c.args.word.now rounds star spelled)
