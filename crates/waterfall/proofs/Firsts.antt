-- What `firsts` keeps, and that adding one after the other what is new gives it.
use Rattle.std.proofs.Common.{◌≡◌, ◌≢◌, ℕ, ◌+◌, ◌<◌, Bool, true, false, not, ◌&&◌, ◌||◌, cond, List, [], ◌∷◌, ◌++◌, Some, find, filter, fold, All, get_or, refl, sym, ap, ◌∙◌, append_assoc, append-nil, arith}
use Rattle.std.specs.List.{list_any}
use Rattle.std.specs.Str.{bytes_eq}
use Rattle.std.proofs.lemmas.Bool.{both_ways, not-true}
use Rattle.std.proofs.lemmas.List.Elements.{All-weaker, All-get_or, filter_agree, filter_passes}
use Rattle.std.proofs.lemmas.List.Folds.{list_any-append}
use Rattle.std.proofs.lemmas.List.Kept.{AllPairs-cons, AllPairs-filter}
use Rattle.std.proofs.lemmas.Slice.Eq.{bytes_eq-Decides}
use Rattle.waterfall.specs.declared.candidate.Candidate.{Candidate}
use Rattle.waterfall.specs.Firsts.{shows, firsts, place_in, KeepsFirsts, with_new}

-- whether two candidates show different texts
abbrev differ : Candidate → Candidate → Bool
differ c d = not (shows c.shown d)

-- whether no candidate of the list shows the text of this one
abbrev is_new : List Candidate → Candidate → Bool
is_new cs c = not (list_any (shows c.shown) cs)

pub bytes_eq-comm : (xs ys : List ℕ) → bytes_eq xs ys ≡ bytes_eq ys xs
bytes_eq-comm xs ys = by (bytes_eq xs ys) (bytes_eq ys xs) refl refl
  where
    by : (a b : Bool) → bytes_eq xs ys ≡ a → bytes_eq ys xs ≡ b → a ≡ b
    by true true e f = refl
    by false false e f = refl
    by true false e f = let t = (bytes_eq-Decides ys xs).1 (sym ((bytes_eq-Decides xs ys).0 e)) in cc
    by false true e f = let t = (bytes_eq-Decides xs ys).1 (sym ((bytes_eq-Decides ys xs).0 f)) in cc

filter-filter : {X : Type 0} (p q : X → Bool) (xs : List X) → filter p (filter q xs) ≡ filter (λ x. q x && p x) xs
filter-filter p q [] = refl
filter-filter p q (x ∷ xs) =
    let rest = filter (λ y. q y && p y) xs in
    elim (q x) as (λ b. filter p (cond b (x ∷ filter q xs) (filter q xs)) ≡ cond (b && p x) (x ∷ rest) rest) [
      | true ↦ ap (λ ys. cond (p x) (x ∷ ys) ys) (filter-filter p q xs)
      | false ↦ filter-filter p q xs
    ]

-- a filter that loses nothing of what passes the test
find-filter : {X : Type 0} (test p : X → Bool) → ((x : X) → test x ≡ true → p x ≡ true) → (xs : List X) → find test (filter p xs) ≡ find test xs
find-filter test p keeps [] = refl
find-filter test p keeps (x ∷ xs) = by (find-filter test p keeps xs) (p x) (test x) refl refl
  where
    by : find test (filter p xs) ≡ find test xs → (a b : Bool) → p x ≡ a → test x ≡ b → find test (cond a (x ∷ filter p xs) (filter p xs)) ≡ cond b (Some x) (find test xs)
    by rest true b e f = rw f (ap (λ o. cond b (Some x) o) rest)
    by rest false false e f = rest
    by rest false true e f = absurd (both_ways (p x) e (keeps x f))

-- one candidate more, new or not, and then what is new behind it
with_new-step : (before : List Candidate) (c : Candidate) (rest : List Candidate)
    → with_new before c ++ filter (is_new (with_new before c)) rest ≡ before ++ filter (is_new before) (c ∷ filter (differ c) rest)
with_new-step before c rest = by (list_any (shows c.shown) before) refl
  where
    old : list_any (shows c.shown) before ≡ true → (d : Candidate) → (differ c d && is_new before d) ≡ is_new before d
    old e d = at (shows c.shown d) refl
      where
        at : (b : Bool) → shows c.shown d ≡ b → (not b && is_new before d) ≡ is_new before d
        at false f = refl
        at true f = let same : d.shown ≡ c.shown = (bytes_eq-Decides d.shown c.shown).0 f in rw (same, e) refl

    new : (d : Candidate) → is_new (before ++ c ∷ []) d ≡ (differ c d && is_new before d)
    new d = rw (list_any-append (shows d.shown) before (c ∷ []), bytes_eq-comm c.shown d.shown) (at (list_any (shows d.shown) before) (shows c.shown d))
      where
        at : (a b : Bool) → not (a || (b || false)) ≡ (not b && not a)
        at true true = refl
        at true false = refl
        at false true = refl
        at false false = refl

    by : (b : Bool) → list_any (shows c.shown) before ≡ b → with_new before c ++ filter (is_new (with_new before c)) rest ≡ before ++ filter (is_new before) (c ∷ filter (differ c) rest)
    by true e = rw e (ap (λ ys. before ++ ys) (sym (filter-filter (is_new before) (differ c) rest ∙ filter_agree _ _ (old e) rest)))
    by false e = rw e (append_assoc before (c ∷ []) _ ∙ ap (λ ys. before ++ c ∷ ys) (filter_agree _ _ new rest ∙ sym (filter-filter (is_new before) (differ c) rest)))

fold-with_new : (before cs : List Candidate) → fold with_new before cs ≡ before ++ filter (is_new before) (firsts cs)
fold-with_new before [] = sym (append-nil before)
fold-with_new before (c ∷ cs) = fold-with_new (with_new before c) cs ∙ with_new-step before c (firsts cs)

filter-all : {X : Type 0} (xs : List X) → filter (λ _. true) xs ≡ xs
filter-all [] = refl
filter-all (x ∷ xs) = ap (λ ys. x ∷ ys) (filter-all xs)

-- from nothing on, what is new is the first of each text
pub fold-with_new_nil : (cs : List Candidate) → fold with_new [] cs ≡ firsts cs
fold-with_new_nil cs = fold-with_new [] cs ∙ filter-all (firsts cs)

place_in-same : (c : Candidate) (all : List Candidate) → place_in (c ∷ all) c ≡ 0
place_in-same c all = let same = (bytes_eq-Decides c.shown c.shown).1 refl in rw same refl

place_in-other : (c d : Candidate) (all : List Candidate) → differ c d ≡ true → place_in (c ∷ all) d ≡ 1 + place_in all d
place_in-other c d all h = let other : shows d.shown c ≡ false = bytes_eq-comm c.shown d.shown ∙ not-true (shows c.shown d) h in rw other refl

KeepsFirsts-cons : (c : Candidate) (all kept : List Candidate) → KeepsFirsts all kept → KeepsFirsts (c ∷ all) (c ∷ filter (differ c) kept)
KeepsFirsts-cons c all kept h =
    let rest = filter (differ c) kept in
    let passes : All (λ d. differ c d ≡ true) rest = filter_passes (differ c) kept in
    let differs : (d : Candidate) → differ c d ≡ true → c.shown ≢ d.shown = λ d p same. both_ways (shows c.shown d) (not-true (shows c.shown d) p) ((bytes_eq-Decides d.shown c.shown).1 (sym same)) in
    let after : (d : Candidate) → differ c d ≡ true → place_in (c ∷ all) c < place_in (c ∷ all) d = λ d p. omega (arith, place_in-same c all, place_in-other c d all p) in
    record {
      once = AllPairs-cons (λ d e. d.shown ≢ e.shown) c rest (All-weaker (λ d. differ c d ≡ true) (λ d. c.shown ≢ d.shown) differs rest passes) (AllPairs-filter (λ d e. d.shown ≢ e.shown) (differ c) kept h.once);
      first = λ text. by text (shows text c) refl;
      ordered = AllPairs-cons (λ d e. place_in (c ∷ all) d < place_in (c ∷ all) e) c rest (All-weaker (λ d. differ c d ≡ true) (λ d. place_in (c ∷ all) c < place_in (c ∷ all) d) after rest passes)
          (λ i j d lt within.
          let before = AllPairs-filter (λ x y. place_in all x < place_in all y) (differ c) kept h.ordered i j d lt within in
          let at_i = place_in-other c (get_or rest i d) all (All-get_or (λ d. differ c d ≡ true) rest i d (omega arith) passes) in
          let at_j = place_in-other c (get_or rest j d) all (All-get_or (λ d. differ c d ≡ true) rest j d within passes) in
          omega (arith, before, at_i, at_j));
    }
  where
    by : (text : List ℕ) (b : Bool) → shows text c ≡ b → find (shows text) (c ∷ filter (differ c) kept) ≡ find (shows text) (c ∷ all)
    by text true e = rw e refl
    by text false e =
        let keeps : (d : Candidate) → shows text d ≡ true → differ c d ≡ true = λ d t. let same : d.shown ≡ text = (bytes_eq-Decides d.shown text).0 t in rw (same, bytes_eq-comm text c.shown, e) refl in
        rw e (find-filter (shows text) (differ c) keeps kept ∙ h.first text)

pub KeepsFirsts-firsts : (cs : List Candidate) → KeepsFirsts cs (firsts cs)
KeepsFirsts-firsts [] = record {
  once = λ i j d lt within. absurd (omega arith);
  first = λ text. refl;
  ordered = λ i j d lt within. absurd (omega arith);
}
KeepsFirsts-firsts (c ∷ cs) = KeepsFirsts-cons c cs (firsts cs) (KeepsFirsts-firsts cs)
