use Rattle.std.proofs.Common.{ltb, rules}
use Rattle.std.proofs.lemmas.List.Sorted.{answers_always}
use Rattle.bd_codes.proofs.Rising.{Rises-answer}
use Rattle.bd_codes.proofs.codes.rise.Goals as goal

-- the closure tests a code against the next
pub returns : goal.returns
returns c =
    Rises-answer c.args.rows.now c.is_sorted_by.result (c.is_sorted_by.ensures.cases (λ row next. ltb row.code next.code) (answers_always _ _ _ (λ f a r h called. search rules)))
