-- The own run of a core: what becomes of it, and what it sends, alone with what comes to it.
use Rattle.std.specs.Prelude.{ℕ, zero, suc, ◌+◌, ◌*◌, ◌&&◌, ◌==◌, nat_lt, if◌then◌else◌, List, [], ◌∷◌, ◌++◌, length, map, Option, Some, None, is_some}
use Rattle.bd_dev.specs.Rows.{TimedArrival}
use Rattle.flow.specs.declared.letters.Letter.{Letter}
use Rattle.flow.specs.Core.{Acts}

-- a letter at milliseconds after the flow's opening
pub record TimedLetter : Type 0 where
  pub at : ℕ
  pub letter : Letter

-- letters that are sent at one time
abbrev pub timed : ℕ → List Letter → List TimedLetter
timed at letters = map (λ l. let t : TimedLetter = record { at = at; letter = l } in t) letters

-- a core, how many arrivals it was given, what is still to come, and the time of its last call
pub record State (C : Type 0) : Type 0 where
  pub core : C
  pub count : ℕ
  pub rest : List TimedArrival
  pub moment : ℕ

-- a core that is not done with its arrival number 131,072 is ended
abbrev pub unless_flooded : {C : Type 0} → Acts C → ℕ → C → C
unless_flooded acts count core =
    if (count == 131072) && is_some (acts.deadline core) then acts.flooded core else core

-- its deadline passes
abbrev pub at_deadline : {C : Type 0} → Acts C → State C → ℕ → State C
at_deadline acts s d =
    record { core = acts.expired s.core d; count = s.count; rest = s.rest; moment = d }

-- an arrival comes to it
abbrev pub at_arrival : {C : Type 0} → Acts C → State C → TimedArrival → List TimedArrival → State C
at_arrival acts s x rest = record {
  core = unless_flooded acts (s.count + 1) (acts.arrived s.core x.at x.arrival);
  count = s.count + 1;
  rest = rest;
  moment = x.at;
}

-- by its deadline and what is still to come
abbrev pub own_next_by : {C : Type 0} → Acts C → State C → Option ℕ → List TimedArrival → State C
own_next_by acts s None rest = s
own_next_by acts s (Some d) [] = at_deadline acts s d
own_next_by acts s (Some d) (x ∷ rest) =
    if nat_lt x.at d then at_arrival acts s x rest else at_deadline acts s d

-- The next step: its deadline, unless an arrival is before it. A core that is done stays.
abbrev pub own_next : {C : Type 0} → Acts C → State C → State C
own_next acts s = own_next_by acts s (acts.deadline s.core) s.rest

-- by its deadline and what is still to come
abbrev pub own_letters_by :
    {C : Type 0} → Acts C → State C → Option ℕ → List TimedArrival → List TimedLetter
own_letters_by acts s None rest = []
own_letters_by acts s (Some d) [] = timed d (acts.expired_letters s.core d)
own_letters_by acts s (Some d) (x ∷ rest) =
    if nat_lt x.at d then timed x.at (acts.arrived_letters s.core x.at x.arrival)
    else timed d (acts.expired_letters s.core d)

-- what it sends in the next step
abbrev pub own_letters : {C : Type 0} → Acts C → State C → List TimedLetter
own_letters acts s = own_letters_by acts s (acts.deadline s.core) s.rest

-- after so many steps
abbrev pub after_steps : {C : Type 0} → Acts C → ℕ → State C → State C
after_steps acts zero s = s
after_steps acts (suc k) s = after_steps acts k (own_next acts s)

-- what it sends in so many steps
abbrev pub letters_in_steps : {C : Type 0} → Acts C → ℕ → State C → List TimedLetter
letters_in_steps acts zero s = []
letters_in_steps acts (suc k) s = own_letters acts s ++ letters_in_steps acts k (own_next acts s)

-- a core that has just begun
abbrev pub start : {C : Type 0} → Acts C → C → List TimedArrival → State C
start acts core arrivals =
    record { core = acts.begun core; count = 0; rest = arrivals; moment = 0 }

-- as many steps as it can take: eight deadlines can pass after each arrival
abbrev pub enough : {C : Type 0} → Acts C → State C → ℕ
enough acts s = 9 * length s.rest + acts.left s.core

-- The own run's end: all its deadlines and all that comes, in order, until it is done.
abbrev pub own_end : {C : Type 0} → Acts C → C → List TimedArrival → State C
own_end acts core arrivals =
    after_steps acts (enough acts (start acts core arrivals)) (start acts core arrivals)

-- all that it sends in its own run
abbrev pub own_sends : {C : Type 0} → Acts C → C → List TimedArrival → List TimedLetter
own_sends acts core arrivals =
    timed 0 (acts.begun_letters core)
    ++ letters_in_steps acts (enough acts (start acts core arrivals)) (start acts core arrivals)
