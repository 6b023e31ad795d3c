-- What holds of a table whose codes rise: a code has one row at most, and a binary search finds it.
use Rattle.std.proofs.Common.{◌≡◌, ℕ, zero, suc, ◌+◌, ◌-◌, ◌<◌, ◌≤◌, eqb, ltb, Bool, true, false, ◌&&◌, List, [], ◌∷◌, length, get_or, Some, None, Ok, Err, refl, sym, ap, ◌∙◌, arith, inl, inr}
use Rattle.std.specs.Prelude.{find, All, IsTrue, ◌↔◌}
use Rattle.std.specs.List.{IsAllAdjacentAnswer}
use Rattle.std.specs.List.Sorted.{IsBinarySearchResult, IsNonDecreasingBy}
use Rattle.std.specs.Ordering.{nat_cmp, ordering_index}
use Rattle.std.proofs.lemmas.Bool.{cases_lt, ltb-true}
use Rattle.std.proofs.lemmas.Bool.Decides.{nat_tests}
use Rattle.std.proofs.lemmas.Cmp.{ranked}
use Rattle.std.proofs.lemmas.List.{get_or_default}
use Rattle.bd_codes.specs.declared.row.Row.{Row}
use Rattle.bd_codes.specs.declared.row.Kind.TheVariants.{Raw}
use Rattle.bd_codes.specs.Codes.{IsOneRow, Rises, row_at}

-- ---- a test of it, which computes on a table written out

-- each code is above the one before
abbrev rises_above : ℕ → List Row → Bool
rises_above code [] = true
rises_above code (row ∷ rows) = ltb code row.code && rises_above row.code rows

abbrev pub rises : List Row → Bool
rises [] = true
rises (row ∷ rows) = rises_above row.code rows

Rises-from_above : (row : Row) (rows : List Row) → rises_above row.code rows ≡ true → Rises (row ∷ rows)
Rises-from_above row [] h k d lt = absurd (omega arith)
Rises-from_above row (next ∷ rows) h zero d lt = grind (arith, nat_tests)
Rises-from_above row (next ∷ rows) h (suc k) d lt =
    let rest : rises_above next.code rows ≡ true = grind (arith, nat_tests) in
    let e : suc k + 1 ≡ suc (k + 1) = omega arith in
    rw e (Rises-from_above next rows rest k d (omega arith))

pub Rises-from_test : (rows : List Row) → rises rows ≡ true → Rises rows
Rises-from_test [] h = λ k d lt. absurd (omega arith)
Rises-from_test (row ∷ rows) h = Rises-from_above row rows h

-- ---- the order of the rows

-- an earlier row has a lower code
Rises-lt : (rows : List Row) → Rises rows → (i n : ℕ) (d : Row) → i + n + 1 < length rows
    → (get_or rows i d).code < (get_or rows (i + n + 1) d).code
Rises-lt rows h i zero d lt = let e : i + 0 + 1 ≡ i + 1 = omega arith in rw e (h i d (omega arith))
Rises-lt rows h i (suc n) d lt =
    let before = Rises-lt rows h i n d (omega arith) in
    let step = h (i + n + 1) d (omega arith) in
    let e : i + suc n + 1 ≡ i + n + 1 + 1 = omega arith in
    rw e (omega arith)

codes_below : (rows : List Row) → Rises rows → (i j : ℕ) (d : Row) → i < j → j < length rows
    → (get_or rows i d).code < (get_or rows j d).code
codes_below rows h i j d below lt =
    let e : i + (j - suc i) + 1 ≡ j = omega arith in
    rw e at (Rises-lt rows h i (j - suc i) d (omega arith))

-- a code has one row at most
pub Rises-only : (rows : List Row) → Rises rows → (i : ℕ) (d : Row) → i < length rows
    → All (λ other. other.code ≡ (get_or rows i d).code → other ≡ get_or rows i d) rows
Rises-only rows h i d lt k e within same =
    let shown = get_or_default rows k e d within in
    let code = ap (λ (row : Row). row.code) shown in
    elim (cases_lt k i) [
      | inl before ↦ absurd (omega (arith, codes_below rows h k i d before lt))
      | inr le ↦ elim (cases_lt i k) [
        | inl after ↦ absurd (omega (arith, codes_below rows h i k d after within))
        | inr ge ↦ let at : k ≡ i = omega arith in shown ∙ ap (λ (n : ℕ). get_or rows n d) at
      ]
    ]

-- ---- the search

find-place : {X : Type 0} (p : X → Bool) (xs : List X) (i : ℕ) (d : X) → i < length xs → p (get_or xs i d) ≡ true
    → ((k : ℕ) → k < i → p (get_or xs k d) ≡ false) → find p xs ≡ Some (get_or xs i d)
find-place p [] i d lt here before = absurd (omega arith)
find-place p (x ∷ xs) zero d lt here before = rw here refl
find-place p (x ∷ xs) (suc i) d lt here before =
    rw (before 0 (omega arith)) (find-place p xs i d (omega arith) here (λ k below. before (suc k) (omega arith)))

find-none : {X : Type 0} (p : X → Bool) (xs : List X) (d : X) → ((k : ℕ) → k < length xs → p (get_or xs k d) ≡ false)
    → find p xs ≡ None
find-none p [] d h = refl
find-none p (x ∷ xs) d h = rw (h 0 (omega arith)) (find-none p xs d (λ k below. h (suc k) (omega arith)))

eqb-lt : (a b : ℕ) → a < b → eqb a b ≡ false
eqb-lt a b lt = grind (arith, nat_tests)

eqb-gt : (a b : ℕ) → b < a → eqb a b ≡ false
eqb-gt a b lt = grind (arith, nat_tests)

eqb-same : (a b : ℕ) → a ≡ b → eqb a b ≡ true
eqb-same a b e = grind (arith, nat_tests)

-- a row's code leads to that row
pub row_at-place : (rows : List Row) → Rises rows → (i code : ℕ) (d : Row) → i < length rows → (get_or rows i d).code ≡ code
    → row_at rows code ≡ Some (get_or rows i d)
row_at-place rows h i code d lt here =
    find-place (λ row. eqb row.code code) rows i d lt (eqb-same _ _ here) (λ k before.
    eqb-lt (get_or rows k d).code code (omega (arith, codes_below rows h k i d before lt)))

-- a binary search for a code ends at its row
pub row_at-found : (rows : List Row) → Rises rows → (code i : ℕ) (d : Row) → i < length rows
    → IsBinarySearchResult (λ row. nat_cmp row.code code) rows (Ok i)
    → (row_at rows code ≡ Some (get_or rows i d)) × IsOneRow rows code (get_or rows i d)
row_at-found rows h code i d lt equal =
    let here : (get_or rows i d).code ≡ code = ranked (get_or rows i d).code code _ (sym (equal d)) in
    let one : IsOneRow rows code (get_or rows i d) = record { has_code = here; only = λ k e within same. Rises-only rows h i d lt k e within (same ∙ sym here) } in
    (row_at-place rows h i code d lt here, one)

-- the comparisons with a code rise along the rows
comparisons_rise : (rows : List Row) → Rises rows → (code : ℕ) → IsNonDecreasingBy (λ row. ordering_index (nat_cmp row.code code)) rows
comparisons_rise rows h code i j d le lt =
    let codes_rise : (get_or rows i d).code ≤ (get_or rows j d).code =
    elim (cases_lt i j) [
      | inl below ↦ let less = codes_below rows h i j d below lt in omega arith
      | inr ge ↦ let same : i ≡ j = omega arith in rw same (omega arith)
    ] in
    grind (arith, nat_tests)

-- a binary search that ends at no row has no row to find
pub row_at-absent : (rows : List Row) → Rises rows → (code i : ℕ)
    → IsBinarySearchResult (λ row. nat_cmp row.code code) rows (Err i) → row_at rows code ≡ None
row_at-absent rows h code i parted =
    let point = parted (comparisons_rise rows h code) in
    let d : Row = record { code = 0; kind = Raw; least = 0; greatest = 0 } in
    find-none (λ row. eqb row.code code) rows d (λ k lt. elim (cases_lt k i) [
      | inl before ↦ eqb-lt (get_or rows k d).code code (ranked (get_or rows k d).code code _ (sym (point.0 k d (omega arith) before)))
      | inr after ↦ eqb-gt (get_or rows k d).code code (ranked (get_or rows k d).code code _ (sym (point.1 k d after lt)))
    ])

-- what a test of each code against the next answers
pub Rises-answer : (rows : List Row) (r : Bool) → IsAllAdjacentAnswer (λ row next b. b ≡ ltb row.code next.code) rows r
    → IsTrue r ↔ Rises rows
Rises-answer rows true h = (λ _ k d lt. ltb-true _ _ (sym (h k d lt)), λ _. refl)
Rises-answer rows false h = (
  λ e. absurd cc,
  λ rises.
      let d : Row = record { code = 0; kind = Raw; least = 0; greatest = 0 } in
      let less = rises h.0 d h.1 in
      let answer = h.2 d in
      absurd (grind (arith, nat_tests)),
)
