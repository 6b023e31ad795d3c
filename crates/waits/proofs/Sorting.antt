-- Rows that are put in order one after the other come to be in order of time.
use Rattle.std.proofs.Common.{◌≡◌, ◌<◌, ◌≤◌, ℕ, Bool, true, false, refl, sym, ap, ◌∙◌, arith, append-nil, append_assoc, List, [], ◌∷◌, ◌++◌}
use Rattle.std.specs.Prelude.{nat_lt, ◌==◌, if◌then◌else◌}
use Rattle.std.specs.List.{AllByRecursion}
use Rattle.std.proofs.lemmas.Bool.Decides.{nat_tests}
use Rattle.bd_dev.specs.Rows.{Row, in_order, put_all_in_order, put_in_order}
use Rattle.bd_dev.proofs.Ordering.{AreOrdered, ordered-in_order}
use Rattle.waits.specs.Sorted.{AreByTime, IsSorted, at_time}

by_time : (rows : List Row) → AreOrdered rows → AreByTime rows
by_time [] h = tt
by_time (row ∷ rows) h = (h.0, by_time rows h.1)

-- rows after this time are of another
none_later : (time : ℕ) (rows : List Row) → AllByRecursion (λ next. time < next.at) rows → at_time time rows ≡ []
none_later time [] all = refl
none_later time (row ∷ rows) all =
    let later : time < row.at = all.0 in
    let no : (row.at == time) ≡ false = grind (arith, nat_tests) in
    rw no (none_later time rows all.1)

later_all : (time at : ℕ) (rows : List Row) → time < at → AllByRecursion (λ next. at ≤ next.at) rows → AllByRecursion (λ next. time < next.at) rows
later_all time at [] lt all = tt
later_all time at (row ∷ rows) lt all = (let here = all.0 in omega (arith, lt, here), later_all time at rows lt all.1)

-- a row that is put into ordered rows comes behind those of its time
put_behind : (time : ℕ) (row : Row) (rows : List Row) → AreOrdered rows → at_time time (put_in_order row rows) ≡ at_time time rows ++ at_time time (row ∷ [])
put_behind time row [] h = refl
put_behind time row (first ∷ rest) h = by_test (nat_lt row.at first.at) refl (row.at == time) refl (put_behind time row rest h.1)
  where
    by_test : (b : Bool) → nat_lt row.at first.at ≡ b → (is : Bool) → (row.at == time) ≡ is
        → at_time time (put_in_order row rest) ≡ at_time time rest ++ at_time time (row ∷ [])
        → at_time time (if b then row ∷ first ∷ rest else first ∷ put_in_order row rest) ≡ at_time time (first ∷ rest) ++ at_time time (row ∷ [])
    by_test true t true e below =
        let lt : time < first.at = grind (arith, nat_tests) in
        let none : at_time time (first ∷ rest) ≡ [] = none_later time (first ∷ rest) (lt, later_all time first.at rest lt h.0) in
        rw (e, none) refl
    by_test true t false e below = rw e (sym (append-nil (at_time time (first ∷ rest))))
    by_test false t is e below = by_first (first.at == time) below
      where
        by_first : (f : Bool) → at_time time (put_in_order row rest) ≡ at_time time rest ++ at_time time (row ∷ [])
            → (if f then first ∷ at_time time (put_in_order row rest) else at_time time (put_in_order row rest)) ≡ (if f then first ∷ at_time time rest else at_time time rest) ++ at_time time (row ∷ [])
        by_first true below = ap (λ (rows : List Row). first ∷ rows) below
        by_first false below = below

put_more : (ordered xs ys : List Row) → put_all_in_order ordered (xs ++ ys) ≡ put_all_in_order (put_all_in_order ordered xs) ys
put_more ordered [] ys = refl
put_more ordered (x ∷ xs) ys = put_more (put_in_order x ordered) xs ys

split : (time : ℕ) (row : Row) (rows : List Row) → at_time time (row ∷ rows) ≡ at_time time (row ∷ []) ++ at_time time rows
split time row rows = by_test (row.at == time)
  where
    by_test : (b : Bool) → (if b then row ∷ at_time time rows else at_time time rows) ≡ (if b then row ∷ [] else []) ++ at_time time rows
    by_test true = refl
    by_test false = refl

-- more rows, behind those that were put in order before
behind_all : (time : ℕ) (before rows : List Row) → at_time time (put_all_in_order (in_order before) rows) ≡ at_time time (in_order before) ++ at_time time rows
unfolding in_order
behind_all time before [] = sym (append-nil (at_time time (in_order before)))
behind_all time before (row ∷ rows) =
    let one : put_in_order row (in_order before) ≡ in_order (before ++ row ∷ []) = sym (put_more [] before (row ∷ [])) in
    ap (λ (ordered : List Row). at_time time (put_all_in_order ordered rows)) one
    ∙ behind_all time (before ++ row ∷ []) rows
    ∙ ap (λ (ordered : List Row). at_time time ordered ++ at_time time rows) (sym one)
    ∙ ap (λ (first : List Row). first ++ at_time time rows) (put_behind time row (in_order before) (ordered-in_order before))
    ∙ append_assoc (at_time time (in_order before)) (at_time time (row ∷ [])) (at_time time rows)
    ∙ ap (λ (rest : List Row). at_time time (in_order before) ++ rest) (sym (split time row rows))

pub sorted : (rows : List Row) → IsSorted rows (in_order rows)
unfolding in_order
sorted rows = record { ordered = by_time (in_order rows) (ordered-in_order rows); each = λ time. behind_all time [] rows }
