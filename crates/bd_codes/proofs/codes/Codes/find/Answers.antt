use Rattle.std.proofs.Common.{sym, rules}
use Rattle.std.proofs.lemmas.List.Sorted.{answers_always}
use Rattle.bd_codes.proofs.Rising.{row_at-found, row_at-absent}
use Rattle.bd_codes.proofs.codes.Codes.find.Goals as goal

-- the closure gives a row's code

pub returns-in-Ok-clause-row : goal.returns-in-Ok-clause-row
returns-in-Ok-clause-row g c =
    let found = c.in-Ok.ensures.position (λ row. row.code) (answers_always _ _ _ (λ f a r h called. search rules)) in
    rw (← c.self.view_is) (sym (row_at-found c.self.inside.rows c.self.invariant c.args.code c.in-Ok.place _ c.in-Ok.ensures.bound found).0)

pub returns-in-Ok-clause-one : goal.returns-in-Ok-clause-one
returns-in-Ok-clause-one g c =
    let found = c.in-Ok.ensures.position (λ row. row.code) (answers_always _ _ _ (λ f a r h called. search rules)) in
    rw (← c.self.view_is) (row_at-found c.self.inside.rows c.self.invariant c.args.code c.in-Ok.place _ c.in-Ok.ensures.bound found).1

pub returns-in-Err-clause-row : goal.returns-in-Err-clause-row
returns-in-Err-clause-row g c =
    let absent = c.in-Err.ensures.position (λ row. row.code) (answers_always _ _ _ (λ f a r h called. search rules)) in
    rw (← c.self.view_is) (sym (row_at-absent c.self.inside.rows c.self.invariant c.args.code c.in-Err.field-0 absent))
