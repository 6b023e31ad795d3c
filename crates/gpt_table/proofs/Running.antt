-- Runs of free sectors: where they begin and end, and that one of them is the largest.
use Rattle.std.proofs.Common.{◌≡◌, ◌⊎◌, inl, inr, ⊎_elim, ℕ, suc, ◌+◌, ◌-◌, ◌<◌, ◌≤◌, length, get_or, slice_get, Option, Some, None, IfSome, sym, ◌∙◌, ap, subst, arith}
use Rattle.std.proofs.lemmas.Bool.{cases_eq, cases_lt, cases_order}
use Rattle.std.proofs.lemmas.Option.{get_or_from_slice_get, slice_get-get_or}
use Rattle.gpt_copy.specs.declared.table.Entry.{Entry}
use Rattle.gpt_copy.specs.declared.table.Table.{Table}
use Rattle.storage_model.specs.Entries.{HasEntry}
use Rattle.gpt_table.specs.Runs.{HasSectors, IsAhead, IsCovered, IsFree, IsFreeRun, IsLargest, IsRunAt}

-- the sector before the raised first one is not free
pub below_raised : (t : Table) (place : ℕ) (d : Entry) (first result : ℕ) → place < length t.entries
    → ((result ≡ first) ⊎ (HasSectors (get_or t.entries place d) × (suc (get_or t.entries place d).last ≡ result))) → ((s : ℕ) → suc s ≡ first → ¬ IsFree t s) → (s : ℕ) → suc s ≡ result → ¬ IsFree t s
below_raised t place d first result lt edge below s is free = elim edge [
  | inl same ↦ below s (is ∙ same) free
  | inr at ↦
      let sectors = at.0 in
      let end = at.1 in
      let ordered = sectors.ordered in
      free.outside place (get_or t.entries place d) (record { is = slice_get-get_or t.entries place d lt; used = sectors.used }) (record { from = omega arith; until = omega arith })
]

-- an entry more that ends before the one ends before the first
pub clear_raised : (t : Table) (place : ℕ) (d : Entry) (at first result : ℕ) → first ≤ result → (HasSectors (get_or t.entries place d) → (get_or t.entries place d).last < at → (get_or t.entries place d).last < result)
    → ((j : ℕ) (e : Entry) → j < place → HasEntry t j e → HasSectors e → e.last < at → e.last < first) → (j : ℕ) (e : Entry) → j < place + 1 → HasEntry t j e → HasSectors e → e.last < at → e.last < result
clear_raised t place d at first result up here clear j e lt has sectors before = elim (cases_lt j place) [
  | inl lower ↦ let old = clear j e lower has sectors before in omega arith
  | inr ge ↦
      let same : j ≡ place = omega arith in
      let read : get_or t.entries place d ≡ e = get_or_from_slice_get t.entries place e d (subst (λ (k : ℕ). slice_get t.entries k ≡ Some e) same has.is) in
      let P : Entry → Type 0 = λ x. HasSectors x → x.last < at → x.last < result in
      subst P read here sectors before
]

-- from the raised first one on all is free
pub free_raised : (t : Table) (at first : ℕ) → IsFree t at → t.first_usable ≤ first → ((j : ℕ) (e : Entry) → HasEntry t j e → HasSectors e → e.last < at → e.last < first) → (s : ℕ) → first ≤ s → s ≤ at → IsFree t s
free_raised t at first free from clear s low high =
    let until = free.until in
    record {
      from = omega arith;
      until = omega arith;
      outside = λ i e has inside.
          let a = inside.from in
          let b = inside.until in
          elim (cases_lt e.last at) [
            | inl before ↦ let c = clear i e has (record { used = has.used; ordered = omega arith }) before in absurd (omega arith)
            | inr behind ↦ free.outside i e has (record { from = omega arith; until = behind })
          ];
    }

-- one run holds a sector
pub one_run : (t : Table) (at a b c d : ℕ) → IsRunAt t at a b → IsRunAt t at c d → (a ≡ c) × (b ≡ d)
one_run t at a b c d r q = (begin_same, end_same)
  where
    not_before : (a b c d : ℕ) → IsRunAt t at a b → IsRunAt t at c d → a < c → ⊥
    not_before a b c d r q lt =
        let x = q.from in
        let y = r.until in
        let before : suc (c - 1) ≡ c = omega arith in
        q.run.below (c - 1) before (r.run.free (c - 1) (omega arith) (omega arith))

    not_behind : (a b c d : ℕ) → IsRunAt t at a b → IsRunAt t at c d → b < d → ⊥
    not_behind a b c d r q lt =
        let x = q.from in
        let y = r.until in
        r.run.above (q.run.free (suc b) (omega arith) (omega arith))

    begin_same : a ≡ c
    begin_same = ⊎_elim (λ same. same) (λ order. ⊎_elim (λ lt. absurd (not_before a b c d r q lt)) (λ gt. absurd (not_before c d a b q r gt)) order) (cases_order a c)

    end_same : b ≡ d
    end_same = ⊎_elim (λ same. same) (λ order. ⊎_elim (λ lt. absurd (not_behind a b c d r q lt)) (λ gt. absurd (not_behind c d a b q r gt)) order) (cases_order b d)

-- ---- the largest

pub ahead_same : (a b : ℕ) → IsAhead a b a b
ahead_same a b = record { longer = omega arith; lower = λ same. omega arith }

pub covered_then : (o p q : Option (ℕ × ℕ)) → IsCovered o p → IsCovered p q → IsCovered o q
covered_then None p q a b = tt
covered_then (Some x) None q a b = absurd a
covered_then (Some x) (Some y) None a b = absurd b
covered_then (Some x) (Some y) (Some z) a b =
    let l = a.longer in
    let m = b.longer in
    record {
      longer = omega arith;
      lower = λ same.
          let u = a.lower (omega arith) in
          let v = b.lower (omega arith) in
          omega arith;
    }

-- every run is among those that were looked at
covered_all : (t : Table) (largest : Option (ℕ × ℕ)) → ((l : ℕ) → IsFreeRun t t.first_usable l → IsCovered (Some (t.first_usable, l)) largest)
    → ((j : ℕ) (e : Entry) (f l : ℕ) → HasEntry t j e → IsFreeRun t f l → f ≡ suc e.last → IsCovered (Some (f, l)) largest)
    → (f l : ℕ) → IsFreeRun t f l → ¬ IsCovered (Some (f, l)) largest → ⊥
covered_all t largest at_first behind f l run none =
    let here = run.free f (omega arith) run.ordered in
    let from = here.from in
    let until = here.until in
    elim (cases_eq f t.first_usable) [
      | inl same ↦ none (subst (λ (k : ℕ). IsCovered (Some (k, l)) largest) (sym same) (at_first l (subst (λ (k : ℕ). IsFreeRun t k l) same run)))
      | inr other ↦
          let before : suc (f - 1) ≡ f = omega arith in
          run.below (f - 1) before (record {
            from = omega arith;
            until = omega arith;
            outside = λ i e has inside.
                let a = inside.from in
                let b = inside.until in
                elim (cases_lt e.last f) [
                  | inl ends ↦ none (behind i e f l has run (omega arith))
                  | inr not ↦ here.outside i e has (record { from = omega arith; until = not })
                ];
          })
    ]

stable : (a b c d : ℕ) → (¬ IsAhead a b c d → ⊥) → IsAhead a b c d
stable a b c d both = record {
  longer = elim (cases_lt (b - a) (d - c)) [
    | inl lt ↦ absurd (both (λ ahead. let h = ahead.longer in absurd (omega arith)))
    | inr le ↦ le
  ];
  lower = λ same. elim (cases_lt c a) [
    | inl lt ↦ absurd (both (λ ahead. let h = ahead.lower same in absurd (omega arith)))
    | inr le ↦ le
  ];
}

-- what was looked at is all
pub record Looked (t : Table) (largest : Option (ℕ × ℕ)) : Type 0 where
  pub at_first : (l : ℕ) → IsFreeRun t t.first_usable l → IsCovered (Some (t.first_usable, l)) largest
  pub behind : (j : ℕ) (e : Entry) (f l : ℕ) → HasEntry t j e → IsFreeRun t f l → f ≡ suc e.last → IsCovered (Some (f, l)) largest

pub largest_of : (t : Table) (a b : ℕ) → IsFreeRun t a b → Looked t (Some (a, b)) → IsLargest t a b
largest_of t a b run looked = record {
  run = run;
  ahead = λ f l other. stable a b f l (covered_all t (Some (a, b)) looked.at_first looked.behind f l other);
}

pub none_of : (t : Table) → Looked t None → (f l : ℕ) → ¬ IsFreeRun t f l
none_of t looked f l run = covered_all t None looked.at_first looked.behind f l run (λ b. b)

pub one_largest : (t : Table) (a b c d : ℕ) → IsLargest t a b → IsLargest t c d → (a ≡ c) × (b ≡ d)
one_largest t a b c d r q =
    let x = r.ahead c d q.run in
    let y = q.ahead a b r.run in
    let l = x.longer in
    let m = y.longer in
    let u = x.lower (omega arith) in
    let v = y.lower (omega arith) in
    let o = r.run.ordered in
    let p = q.run.ordered in
    let same_first : a ≡ c = omega arith in
    let same_last : b ≡ d = omega arith in
    (same_first, same_last)

-- ---- what the code looks at

-- the run behind an entry holds the sector behind it
pub at_behind : (t : Table) (place : ℕ) (d e : Entry) (first last : ℕ) → HasEntry t place e → IsFreeRun t first last → first ≡ suc e.last → IsRunAt t ((get_or t.entries place d).last + 1) first last
at_behind t place d e first last has run is =
    let read : get_or t.entries place d ≡ e = get_or_from_slice_get t.entries place e d has.is in
    let end : (get_or t.entries place d).last ≡ e.last = ap (λ (x : Entry). x.last) read in
    let ordered = run.ordered in
    record { run = run; from = omega arith; until = omega arith }

pub run_of : (t : Table) (at : ℕ) (o : Option (ℕ × ℕ)) → IfSome o (λ r. IsRunAt t at r.0 r.1) → IfSome o (λ r. IsFreeRun t r.0 r.1)
run_of t at None found = tt
run_of t at (Some r) found = found.run

pub covered_by : (f l : ℕ) (o : Option (ℕ × ℕ)) → o ≡ Some (f, l) → IsCovered (Some (f, l)) o
covered_by f l o is = subst (IsCovered (Some (f, l))) (sym is) (ahead_same f l)

pub found_of : (t : Table) (o : Option (ℕ × ℕ)) → IfSome o (λ r. IsFreeRun t r.0 r.1) → Looked t o → IfSome o (λ r. IsLargest t r.0 r.1)
found_of t None run looked = tt
found_of t (Some r) run looked = largest_of t r.0 r.1 run looked

pub only_of : (t : Table) (o : Option (ℕ × ℕ)) → IfSome o (λ r. IsFreeRun t r.0 r.1) → Looked t o → (f l : ℕ) → IsLargest t f l → o ≡ Some (f, l)
only_of t None run looked f l largest = absurd (none_of t looked f l largest.run)
only_of t (Some r) run looked f l largest =
    let same = one_largest t r.0 r.1 f l (largest_of t r.0 r.1 run looked) largest in
    ap (λ (k : ℕ). Some (k, r.1)) same.0 ∙ ap (λ (k : ℕ). Some (f, k)) same.1
