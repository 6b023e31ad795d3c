-- The own run of a client that waits comes to its outcome.
use Rattle.std.proofs.Common.{◌≡◌, ◌+◌, ℕ, suc, Bool, true, false, Some, None, refl, arith, ap, ◌∙◌, List, [], ◌∷◌, ◌++◌, append-nil}
use Rattle.std.specs.Prelude.{nat_lt, ◌==◌, ◌&&◌, if◌then◌else◌}
use Rattle.bd_dev.specs.Rows.{TimedArrival}
use Rattle.flow.specs.declared.letters.Letter.{Letter}
use Rattle.flow.specs.Core.{AreLawful, Lasts}
use Rattle.flow.specs.Own.{State, TimedLetter, timed, unless_flooded, own_next, own_letters, after_steps, letters_in_steps, start, enough}
use Rattle.flow.proofs.OwnRun.{ends_by, same_end}
use Rattle.waits.specs.Laws.{IsTimely, IsNewWaiter, HasWaiterBegun, exchange_lawful}
use Rattle.waits.specs.Waits.{Exchange, Heard, Stays, Begins, Ends, Timers, ComesTo, Outcome, Waiter, alone, arrived_by, behind, done, due_by, exchange_acts, found_of, heard, letters_of, meets, new_waiter, outcome, outcome_from, waiting}

-- so many steps lead to this outcome
pub record Leads {W R : Type 0} (ex : Exchange W R) (n : ℕ) (s : State (Waiter W R)) (o : Outcome R) : Type 0 where
  pub found : (after_steps (exchange_acts ex) n s).core.found ≡ Some o.found
  pub end : (after_steps (exchange_acts ex) n s).moment ≡ o.end
  pub sent : letters_in_steps (exchange_acts ex) n s ≡ o.sends

-- some steps do
abbrev pub Comes : {W R : Type 0} → Exchange W R → State (Waiter W R) → Outcome R → Type 0
Comes ex s o = (n : ℕ) × Leads ex n s o

-- a client that has done so much and waits on
abbrev pub at : {W R : Type 0} → Waiter W R → ℕ → List TimedArrival → ℕ → State (Waiter W R)
at c count rest moment = record { core = c; count = count; rest = rest; moment = moment }

-- one step, and then the rest
step : {W R : Type 0} (ex : Exchange W R) (s t : State (Waiter W R)) (front : List TimedLetter) (o : Outcome R)
    → own_next (exchange_acts ex) s ≡ t → own_letters (exchange_acts ex) s ≡ front → Comes ex t o → Comes ex s (behind front o)
step {W} {R} ex s t front o next letters r = (
  suc r.0,
  record {
    found = ap (λ (u : State (Waiter W R)). (after_steps (exchange_acts ex) r.0 u).core.found) next ∙ r.1.found;
    end = ap (λ (u : State (Waiter W R)). (after_steps (exchange_acts ex) r.0 u).moment) next ∙ r.1.end;
    sent = ap (λ (ys : List TimedLetter). ys ++ letters_in_steps (exchange_acts ex) r.0 (own_next (exchange_acts ex) s)) letters
        ∙ ap (λ (u : State (Waiter W R)). front ++ letters_in_steps (exchange_acts ex) r.0 u) next
        ∙ ap (λ (ys : List TimedLetter). front ++ ys) r.1.sent;
  },
)

-- where nothing comes any more
pub alone_comes : {W R : Type 0} (ex : Exchange W R) (w : W) (count moment : ℕ) (again : List ℕ) (over : ℕ)
    → Comes ex (at (waiting w again over) count [] moment) (alone ex w again over)
alone_comes ex w count moment [] over = (1, record { found = refl; end = refl; sent = refl })
alone_comes ex w count moment (d ∷ ds) over =
    step ex (at (waiting w (d ∷ ds) over) count [] moment) (at (waiting w ds over) count [] d) (timed d (ex.again w d)) (alone ex w ds over)
    refl refl (alone_comes ex w count d ds over)

-- the same outcome, where what was sent stands in front
front_none : {R : Type 0} (letters : List TimedLetter) (r : R) (time : ℕ)
    → (let o : Outcome R = record { found = r; sends = letters ++ []; end = time } in o) ≡ record { found = r; sends = letters; end = time }
front_none {R} letters r time = ap (λ (ys : List TimedLetter). let o : Outcome R = record { found = r; sends = ys; end = time } in o) (append-nil letters)

-- one step to an end
last_step : {W R : Type 0} (ex : Exchange W R) (s t : State (Waiter W R)) (front : List TimedLetter) (r : R)
    → own_next (exchange_acts ex) s ≡ t → own_letters (exchange_acts ex) s ≡ front → t.core.found ≡ Some r
    → Comes ex s (record { found = r; sends = front; end = t.moment })
last_step {W} {R} ex s t front r next letters found = (
  1,
  record {
    found = ap (λ (u : State (Waiter W R)). u.core.found) next ∙ found;
    end = ap (λ (u : State (Waiter W R)). u.moment) next;
    sent = append-nil (own_letters (exchange_acts ex) s) ∙ letters;
  },
)

-- an arrival that does not end the client
goes : {W R : Type 0} (ex : Exchange W R) (s : State (Waiter W R)) (w : W) (again : List ℕ) (over count : ℕ) (rest : List TimedArrival) (time : ℕ) (letters : List Letter) (o : Outcome R) (b : Bool) → (count == 131072) ≡ b
    → own_next (exchange_acts ex) s ≡ at (unless_flooded (exchange_acts ex) count (waiting w again over)) count rest time
    → own_letters (exchange_acts ex) s ≡ timed time letters
    → Comes ex (at (waiting w again over) count rest time) o
    → Comes ex s (if b then record { found = ex.flooded w; sends = timed time letters; end = time } else behind (timed time letters) o)
goes {W} {R} ex s w again over count rest time letters o true is next sent more =
    last_step ex s (at (done w over (ex.flooded w)) count rest time) (timed time letters) (ex.flooded w)
    (next ∙ ap (λ (b : Bool). at (if b && true then done w over (ex.flooded w) else waiting w again over) count rest time) is) sent refl
goes {W} {R} ex s w again over count rest time letters o false is next sent more =
    step ex s (at (waiting w again over) count rest time) (timed time letters) o
    (next ∙ ap (λ (b : Bool). at (if b && true then done w over (ex.flooded w) else waiting w again over) count rest time) is) sent more

-- an end is no flood
ended : {W R : Type 0} (ex : Exchange W R) (w : W) (over : ℕ) (r : R) (b : Bool)
    → (if b && false then done w over (ex.flooded w) else done w over r) ≡ done w over r
ended ex w over r true = refl
ended ex w over r false = refl

-- an arrival, by what it is to the wait
heard_comes : {W R : Type 0} (ex : Exchange W R) (s : State (Waiter W R)) (w : W) (again : List ℕ) (over count : ℕ) (rest : List TimedArrival) (time : ℕ)
    → ((v : W) (t : Timers) (moment : ℕ) → Comes ex (at (waiting v t.again t.over) count rest moment) (outcome_from ex rest count v t))
    → (v : Heard W R)
    → own_next (exchange_acts ex) s ≡ at (unless_flooded (exchange_acts ex) count (arrived_by ex (waiting w again over) time v)) count rest time
    → own_letters (exchange_acts ex) s ≡ timed time (letters_of v)
    → Comes ex s (heard ex count time (record { again = again; over = over }) (outcome_from ex rest count) v)
heard_comes ex s w again over count rest time more (Stays v letters) next sent =
    goes ex s v again over count rest time letters (outcome_from ex rest count v (record { again = again; over = over })) (count == 131072) refl next sent (more v (record { again = again; over = over }) time)
heard_comes ex s w again over count rest time more (Begins v letters) next sent =
    goes ex s v (ex.timers v time).again (ex.timers v time).over count rest time letters (outcome_from ex rest count v (ex.timers v time)) (count == 131072) refl next sent (more v (ex.timers v time) time)
heard_comes {W} {R} ex s w again over count rest time more (Ends v r letters) next sent =
    last_step ex s (at (done v over r) count rest time) (timed time letters) r
    (next ∙ ap (λ (c : Waiter W R). at c count rest time) (ended ex v over r (count == 131072))) sent refl

-- an arrival, and the timers ahead of it
meets_comes : {W R : Type 0} (ex : Exchange W R) (w : W) (count : ℕ) (x : TimedArrival) (rest : List TimedArrival)
    → ((v : W) (t : Timers) (moment : ℕ) → Comes ex (at (waiting v t.again t.over) (count + 1) rest moment) (outcome_from ex rest (count + 1) v t))
    → (again : List ℕ) (over moment : ℕ)
    → Comes ex (at (waiting w again over) count (x ∷ rest) moment) (meets ex (count + 1) w x (outcome_from ex rest (count + 1)) again over)
meets_comes {W} {R} ex w count x rest more [] over moment = by_time (nat_lt x.at over) refl
  where
    s : State (Waiter W R)
    s = at (waiting w [] over) count (x ∷ rest) moment

    by_time : (b : Bool) → nat_lt x.at over ≡ b
        → Comes ex s (if b then heard ex (count + 1) x.at (record { again = []; over = over }) (outcome_from ex rest (count + 1)) (ex.hears w x.at x.arrival)
        else record { found = ex.late w; sends = []; end = over })
    by_time true e = heard_comes ex s w [] over (count + 1) rest x.at more (ex.hears w x.at x.arrival) (rw e refl) (rw e refl)
    by_time false e = last_step ex s (at (done w over (ex.late w)) count (x ∷ rest) over) [] (ex.late w) (rw e refl) (rw e refl) refl
meets_comes {W} {R} ex w count x rest more (d ∷ ds) over moment = by_time (nat_lt x.at d) refl (meets_comes ex w count x rest more ds over d)
  where
    s : State (Waiter W R)
    s = at (waiting w (d ∷ ds) over) count (x ∷ rest) moment

    by_time : (b : Bool) → nat_lt x.at d ≡ b
        → Comes ex (at (waiting w ds over) count (x ∷ rest) d) (meets ex (count + 1) w x (outcome_from ex rest (count + 1)) ds over)
        → Comes ex s (if b then heard ex (count + 1) x.at (record { again = d ∷ ds; over = over }) (outcome_from ex rest (count + 1)) (ex.hears w x.at x.arrival)
        else behind (timed d (ex.again w d)) (meets ex (count + 1) w x (outcome_from ex rest (count + 1)) ds over))
    by_time true e later = heard_comes ex s w (d ∷ ds) over (count + 1) rest x.at more (ex.hears w x.at x.arrival) (rw e refl) (rw e refl)
    by_time false e later = step ex s (at (waiting w ds over) count (x ∷ rest) d) (timed d (ex.again w d)) (meets ex (count + 1) w x (outcome_from ex rest (count + 1)) ds over) (rw e refl) (rw e refl) later

-- A client that waits finds, sends and ends as its outcome says.
pub outcome_comes : {W R : Type 0} (ex : Exchange W R) (xs : List TimedArrival) (count : ℕ) (w : W) (t : Timers) (moment : ℕ)
    → Comes ex (at (waiting w t.again t.over) count xs moment) (outcome_from ex xs count w t)
outcome_comes ex [] count w t moment = alone_comes ex w count moment t.again t.over
outcome_comes ex (x ∷ rest) count w t moment =
    meets_comes ex w count x rest (λ v u time. outcome_comes ex rest (count + 1) v u time) t.again t.over moment

is_done : {W R : Type 0} (c : Waiter W R) (r : R) → c.found ≡ Some r → due_by c.found c.again c.over ≡ None
is_done c r e = rw e refl

-- A client that waits comes to its outcome, in the steps that are enough.
pub comes_to : {W R : Type 0} (ex : Exchange W R) → IsTimely ex → (w : W) (arrivals : List TimedArrival)
    → ComesTo (exchange_acts ex) found_of (new_waiter ex w) arrivals (outcome ex w arrivals)
comes_to {W} {R} ex timely w arrivals = record {
  found = ap (λ (s : State (Waiter W R)). s.core.found) same.0 ∙ comes.1.found;
  ends = ap (λ (s : State (Waiter W R)). s.moment) same.0 ∙ comes.1.end;
  sends = ap (λ (ys : List TimedLetter). timed 0 (ex.asks w) ++ ys) (same.1 ∙ comes.1.sent);
}
  where
    begun : State (Waiter W R)
    begun = start (exchange_acts ex) (new_waiter ex w) arrivals

    comes : Comes ex begun (outcome_from ex arrivals 0 w (ex.timers w 0))
    comes = outcome_comes ex arrivals 0 w (ex.timers w 0) 0

    lawful : AreLawful (exchange_acts ex) (IsNewWaiter ex) HasWaiterBegun
    lawful = exchange_lawful ex timely

    here : Lasts (exchange_acts ex) HasWaiterBegun 0 60000 (new_waiter ex w)
    here = lawful.begins (new_waiter ex w) refl

    ended : (exchange_acts ex).deadline (after_steps (exchange_acts ex) (enough (exchange_acts ex) begun) begun).core ≡ None
    ended = ends_by (exchange_acts ex) (IsNewWaiter ex) HasWaiterBegun lawful (enough (exchange_acts ex) begun) begun here.begun here.few (omega arith)

    done : (exchange_acts ex).deadline (after_steps (exchange_acts ex) comes.0 begun).core ≡ None
    done = is_done (after_steps (exchange_acts ex) comes.0 begun).core (outcome_from ex arrivals 0 w (ex.timers w 0)).found comes.1.found

    same : (after_steps (exchange_acts ex) (enough (exchange_acts ex) begun) begun ≡ after_steps (exchange_acts ex) comes.0 begun)
        × (letters_in_steps (exchange_acts ex) (enough (exchange_acts ex) begun) begun ≡ letters_in_steps (exchange_acts ex) comes.0 begun)
    same = same_end (exchange_acts ex) (enough (exchange_acts ex) begun) comes.0 begun ended done
