-- Fetches of a list of candidates.
use Rattle.std.specs.Prelude.{◌≡◌, ◌≢◌, ◌⊎◌, ◌≤◌, ℕ, List, map, sum, take, Option, Some, Result, Err}
use Rattle.bd_dev.specs.Faults.{Rose}
use Rattle.std.specs.List.{flat_map}
use Rattle.fetch_text.specs.Lines.{line_of}
use Rattle.find_fetch.specs.Fetching.{Asked, needs}
use Rattle.find_fetch.specs.declared.fetched.Fetched.{Fetched}
use Rattle.url_waterfall.specs.declared.candidate.Candidate.{Candidate}

-- each candidate is asked for in round 1
abbrev pub asked_all : List Candidate → List Asked
asked_all list = map (λ c. let x : Asked = record { round = 1; candidate = c } in x) list

-- how many fetches over the network they take
abbrev pub needs_all : List Candidate → ℕ
needs_all list = sum (map needs list)

-- what a fetch gives of each candidate is told
abbrev pub AnswersAs : (ℕ → Candidate → Option Fetched) → (Candidate → Fetched) → Type 0
AnswersAs answer found = (c : Candidate) → answer 1 c ≡ Some (found c)

-- a line for each, by what a fetch gives of it
abbrev pub lines_by : (Candidate → Fetched) → List Candidate → List ℕ
lines_by found list = flat_map (λ c. line_of c.shown (found c)) list

-- some of the fetches were made, of which the last may have broken off
pub record EndsAmong
    {F : Type 0} (Made Broken : F → List Asked → F → Type 0) (old : F) (all : List Asked) (new : F) : Type 0 where
  pub count : ℕ
  pub ends : Made old (take count all) new ⊎ Broken old (take count all) new

-- the count of the console or that of the trace rises where the answer is this fault, and else both stay
pub record HasCauseOfTwo
    {T E : Type 0} (fault : E) (console console_now trace trace_now : ℕ) (result : Result T E) : Type 0 where
  pub console_later : console ≤ console_now
  pub trace_later : trace ≤ trace_now
  pub failed : result ≡ Err fault → Rose console console_now ⊎ Rose trace trace_now
  pub quiet : result ≢ Err fault → (console_now ≡ console) × (trace_now ≡ trace)
