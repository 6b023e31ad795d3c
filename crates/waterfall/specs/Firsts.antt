-- A list with each shown text once: the first candidate of each.
use Rattle.std.specs.Prelude.{◌≡◌, ◌≢◌, ℕ, ◌<◌, Bool, not, if◌then◌else◌, List, [], ◌∷◌, ◌++◌, filter, find, AllPairs}
use Rattle.std.specs.List.{list_any, position_or_len}
use Rattle.std.specs.Str.{bytes_eq}
use Rattle.std.specs.BTreeSet.{BTreeSet, contains_by}
use Rattle.std.specs.Cmp.Lexicographic.{slice_cmp}
use Rattle.std.specs.Ordering.{nat_cmp}
use Rattle.std.specs.declared.vec.Vec.{Vec}
use Rattle.waterfall.specs.declared.candidate.Candidate.{Candidate}

-- whether the candidate shows this text
abbrev pub shows : List ℕ → Candidate → Bool
shows text c = bytes_eq c.shown text

-- the candidates without each one whose shown text came before
abbrev pub firsts : List Candidate → List Candidate
firsts [] = []
firsts (c ∷ cs) = c ∷ filter (λ d. not (shows c.shown d)) (firsts cs)

-- the place among all at which the candidate's text comes first
abbrev pub place_in : List Candidate → Candidate → ℕ
place_in all c = position_or_len (shows c.shown) all

-- what is kept of all the candidates: the first of each shown text, in their order
pub record KeepsFirsts (all kept : List Candidate) : Type 0 where
  pub once : AllPairs (λ c d. c.shown ≢ d.shown) kept
  pub first : (text : List ℕ) → find (shows text) kept ≡ find (shows text) all
  pub ordered : AllPairs (λ c d. place_in all c < place_in all d) kept

-- the texts in order are those that the candidates show
abbrev pub IsIndex : {Y : Type 0} → BTreeSet (Vec ℕ Y) → List Candidate → Type 0
IsIndex texts cs = (text : List ℕ) → contains_by (λ key. slice_cmp nat_cmp text key.items) texts ≡ list_any (shows text) cs

-- one candidate more at the end, unless its text is shown already
abbrev pub with_new : List Candidate → Candidate → List Candidate
with_new cs c = if list_any (shows c.shown) cs then cs else cs ++ c ∷ []
