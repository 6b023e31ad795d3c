-- A client that waits: what a list of arrivals gives, what is sent, and when it ends.
use Rattle.std.specs.Prelude.{◌≡◌, ℕ, ◌+◌, ◌==◌, nat_lt, if◌then◌else◌, List, [], ◌∷◌, ◌++◌, length, Option, Some, None}
use Rattle.bd_dev.specs.Rows.{TimedArrival}
use Rattle.bd_dev.specs.declared.net.Arrival.{Arrival}
use Rattle.flow.specs.declared.letters.Letter.{Letter}
use Rattle.flow.specs.Core.{Acts}
use Rattle.flow.specs.Own.{TimedLetter, own_end, own_sends, timed}

-- the timers of a wait: the times at which something goes again, and the time at which it is over
pub record Timers : Type 0 where
  pub again : List ℕ
  pub over : ℕ

-- what an arrival is to a wait, and what goes out for it
pub data Heard (W R : Type 0) : Type 0 where
  -- the wait goes on, and no timer moves
  Stays : W → List Letter → Heard W R
  -- the next wait begins with it
  Begins : W → List Letter → Heard W R
  -- it ends the client, which knows this then, and finds that
  Ends : W → R → List Letter → Heard W R

-- What a client does in its waits. W is what it knows in one, R is what it finds.
pub record Exchange (W R : Type 0) : Type 0 where
  pub asks : W → List Letter
  pub timers : W → ℕ → Timers
  pub again : W → ℕ → List Letter
  pub hears : W → ℕ → Arrival → Heard W R
  pub late : W → R
  pub flooded : W → R

-- what a client finds, what it sends, and when it ends
pub record Outcome (R : Type 0) : Type 0 where
  pub found : R
  pub sends : List TimedLetter
  pub end : ℕ

-- the same, where what is found is read as something else
abbrev pub found_as : {R S : Type 0} → (R → S) → Outcome R → Outcome S
found_as f o = record { found = f o.found; sends = o.sends; end = o.end }

-- with what was sent before it
abbrev pub behind : {R : Type 0} → List TimedLetter → Outcome R → Outcome R
behind front o = record { found = o.found; sends = front ++ o.sends; end = o.end }

-- nothing comes any more
abbrev pub alone : {W R : Type 0} → Exchange W R → W → List ℕ → ℕ → Outcome R
alone ex w [] over = record { found = ex.late w; sends = []; end = over }
alone ex w (d ∷ ds) over = behind (timed d (ex.again w d)) (alone ex w ds over)

-- the arrival of this number, where it does not end the client: the one that is too many does
abbrev pub goes_on : {W R : Type 0} → Exchange W R → ℕ → ℕ → W → List Letter → Outcome R → Outcome R
goes_on ex count at w letters rest =
    if count == 131072 then record { found = ex.flooded w; sends = timed at letters; end = at }
    else behind (timed at letters) rest

-- by what it is to the wait; the rest decides from the next wait on
abbrev pub heard : {W R : Type 0} → Exchange W R → ℕ → ℕ → Timers
    → (W → Timers → Outcome R) → Heard W R → Outcome R
heard ex count at t more (Stays w letters) = goes_on ex count at w letters (more w t)
heard ex count at t more (Begins w letters) = goes_on ex count at w letters (more w (ex.timers w at))
heard ex count at t more (Ends w r letters) = record { found = r; sends = timed at letters; end = at }

-- the timers before the arrival pass first, also those of its moment
abbrev pub meets : {W R : Type 0} → Exchange W R → ℕ → W → TimedArrival
    → (W → Timers → Outcome R) → List ℕ → ℕ → Outcome R
meets ex count w x more [] over =
    if nat_lt x.at over then heard ex count x.at (record { again = []; over = over }) more (ex.hears w x.at x.arrival)
    else record { found = ex.late w; sends = []; end = over }
meets ex count w x more (d ∷ ds) over =
    if nat_lt x.at d then heard ex count x.at (record { again = d ∷ ds; over = over }) more (ex.hears w x.at x.arrival)
    else behind (timed d (ex.again w d)) (meets ex count w x more ds over)

-- from a wait on, with so many arrivals so far
abbrev pub outcome_from : {W R : Type 0} → Exchange W R → List TimedArrival → ℕ → W → Timers → Outcome R
outcome_from ex [] count w t = alone ex w t.again t.over
outcome_from ex (x ∷ rest) count w t =
    meets ex (count + 1) w x (outcome_from ex rest (count + 1)) t.again t.over

-- of all that comes
abbrev pub outcome : {W R : Type 0} → Exchange W R → W → List TimedArrival → Outcome R
outcome ex w arrivals = behind (timed 0 (ex.asks w)) (outcome_from ex arrivals 0 w (ex.timers w 0))

-- ---- the machine of a client that waits

-- what it knows, the timers ahead, and what it found once it is done
pub record Waiter (W R : Type 0) : Type 0 where
  pub known : W
  pub again : List ℕ
  pub over : ℕ
  pub found : Option R

abbrev pub done : {W R : Type 0} → W → ℕ → R → Waiter W R
done w over r = record { known = w; again = []; over = over; found = Some r }

abbrev pub waiting : {W R : Type 0} → W → List ℕ → ℕ → Waiter W R
waiting w again over = record { known = w; again = again; over = over; found = None }

-- a client that has not begun
abbrev pub new_waiter : {W R : Type 0} → Exchange W R → W → Waiter W R
new_waiter ex w = waiting w (ex.timers w 0).again (ex.timers w 0).over

abbrev pub next_due : List ℕ → ℕ → ℕ
next_due [] over = over
next_due (d ∷ ds) over = d

abbrev pub due_by : {R : Type 0} → Option R → List ℕ → ℕ → Option ℕ
due_by None again over = Some (next_due again over)
due_by (Some r) again over = None

abbrev pub left_by : {R : Type 0} → Option R → List ℕ → ℕ
left_by None again = length again + 1
left_by (Some r) again = 0

abbrev pub arrived_by : {W R : Type 0} → Exchange W R → Waiter W R → ℕ → Heard W R → Waiter W R
arrived_by ex c at (Stays w letters) = waiting w c.again c.over
arrived_by ex c at (Begins w letters) = waiting w (ex.timers w at).again (ex.timers w at).over
arrived_by ex c at (Ends w r letters) = done w c.over r

abbrev pub letters_of : {W R : Type 0} → Heard W R → List Letter
letters_of (Stays w letters) = letters
letters_of (Begins w letters) = letters
letters_of (Ends w r letters) = letters

abbrev pub expired_by : {W R : Type 0} → Exchange W R → Waiter W R → List ℕ → Waiter W R
expired_by ex c [] = done c.known c.over (ex.late c.known)
expired_by ex c (d ∷ ds) = waiting c.known ds c.over

abbrev pub expired_letters_by : {W R : Type 0} → Exchange W R → Waiter W R → ℕ → List ℕ → List Letter
expired_letters_by ex c at [] = []
expired_letters_by ex c at (d ∷ ds) = ex.again c.known at

abbrev pub exchange_acts : {W R : Type 0} → Exchange W R → Acts (Waiter W R)
exchange_acts ex = record {
  begun = λ c. c;
  begun_letters = λ c. ex.asks c.known;
  arrived = λ c at a. arrived_by ex c at (ex.hears c.known at a);
  arrived_letters = λ c at a. letters_of (ex.hears c.known at a);
  expired = λ c at. expired_by ex c c.again;
  expired_letters = λ c at. expired_letters_by ex c at c.again;
  flooded = λ c. done c.known c.over (ex.flooded c.known);
  deadline = λ c. due_by c.found c.again c.over;
  left = λ c. left_by c.found c.again;
}

-- what it found, once it is done
abbrev pub found_of : {W R : Type 0} → Waiter W R → Option R
found_of c = c.found

-- The own run of a core ends with what is found, at the outcome's end, and sends what the outcome does.
pub record ComesTo {C R : Type 0} (acts : Acts C) (found_in : C → Option R) (c : C) (arrivals : List TimedArrival) (o : Outcome R)
    : Type 0 where
  pub found : found_in (own_end acts c arrivals).core ≡ Some o.found
  pub ends : (own_end acts c arrivals).moment ≡ o.end
  pub sends : own_sends acts c arrivals ≡ o.sends
