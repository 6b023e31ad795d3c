-- One answer of the network: the deadline that passes, or the arrival that comes.
use Rattle.std.proofs.Common.{◌≡◌, ◌≢◌, ◌<◌, ◌≤◌, ◌+◌, ◌-◌, ℕ, Option, Some, refl, arith, ap, sym, subst, ◌∙◌, List, length, set, map}
use Rattle.std.specs.Prelude.{slice_get, slice_index}
use Rattle.std.proofs.lemmas.List.{get_or-set_same, get_or-set_other, length-set}
use Rattle.std.proofs.lemmas.Option.{slice_get_within}
use Rattle.bd_dev.specs.declared.net.Arrival.{Arrival}
use Rattle.bd_dev.specs.declared.net.Next.{Next}
use Rattle.bd_dev.specs.declared.net.Next.TheVariants.{Came, Quiet}
use Rattle.bd_dev.specs.Rows.{Row, TimedArrival, arrivals}
use Rattle.bd_dev.specs.Net.{Answers, GivesTo, IsEarliest, IsNextOf, NoneBefore, OpenFlow, Outgoing}
use Rattle.bd_dev.proofs.Places.{element_at, slice_get-set_same, slice_get-set_other}
use Rattle.flow.specs.declared.letters.Letter.{Letter}
use Rattle.flow.specs.declared.sends.Sent.{Sent}
use Rattle.flow.specs.declared.flows.Flow.{Flow}
use Rattle.flow.specs.Core.{Acts, AreLawful, IsEarly}
use Rattle.flow.specs.Own.{unless_flooded}
use Rattle.flow.specs.Phase.{time_limit}
use Rattle.flow.specs.Sends.{sent_at}
use Rattle.flow.specs.Running.{with_core, GoesOn, IsFirstDue, InProgress, AreInProgress, FollowsOwn, TurnsOn, calls_left}
use Rattle.flow.proofs.OwnRun.{follows_deadline, follows_arrival}
use Rattle.flow.proofs.Sending.{posted_more}
use Rattle.flow.proofs.Changes.{Changes, adds_here, change_one, follow_one, own_more}
use Rattle.flow.proofs.Calls.{progress_expired, progress_arrived, calls_left_expired, calls_left_arrived, came_place, came_waits}

-- one flow that goes on, as a change of all
goes_changes : {C : Type 0} (first i at round : ℕ) (letters : List Letter) (due : Option ℕ) (core : C) (flows flows' : List (Flow C)) (counts counts' : List ℕ) (ws ws1 ws2 : ℕ → Option OpenFlow) (now : ℕ) (sends sends' : List Sent) (net net' : Option (List Outgoing)) (f : Flow C)
    → slice_get flows i ≡ Some f → flows' ≡ set flows i (with_core f core)
    → GoesOn at round (first + i) f.label letters due ws1 ws2 sends sends' net net'
    → ((m : ℕ) → m ≢ first + i → ws1 m ≡ ws m)
    → ((k : ℕ) → k ≢ i → slice_index counts' k ≡ slice_index counts k) → length counts' ≡ length counts → now ≤ at
    → Changes first (length flows) (length flows') i flows flows' counts counts' ws ws2 now at (map (sent_at at round (first + i) f.label) letters) sends sends' (with_core f core)
goes_changes first i at round letters due core flows flows' counts counts' ws ws1 ws2 now sends sends' net net' f here is goes same apart long later =
    let n : length flows' ≡ length flows = ap length is ∙ length-set flows i (with_core f core) in
    let lt = slice_get_within flows i f here in
    record {
      grows = omega (arith, n);
      place = omega (arith, n, lt);
      within = omega (arith, n);
      was = λ k l ne. omega (arith, n, l);
      here = ap (λ xs. slice_get xs i) is ∙ slice_get-set_same flows i (with_core f core) lt;
      apart = λ k ne. ap (λ xs. slice_get xs k) is ∙ slice_get-set_other flows i k (with_core f core) ne;
      long = n;
      counts_apart = apart;
      counts_long = long;
      open_apart = λ m ne. goes.closes.others m ne ∙ same m ne;
      later = later;
      files = goes.files;
    }

-- The first deadline passes.
pub quiet_turns : {C : Type 0} (acts : Acts C) (IsNew HasBegun : C → Type 0) → AreLawful acts IsNew HasBegun → (since round first i due : ℕ) (flows flows' : List (Flow C)) (f : Flow C) (counts : List ℕ) (ws ws1 ws2 : ℕ → Option OpenFlow) (now : ℕ) (rows : Option (List Row)) (sends sends' : List Sent) (net net' : Option (List Outgoing))
    → AreInProgress acts HasBegun since round first (length flows) flows counts ws now sends
    → IsFirstDue acts flows (length flows) i due
    → slice_get flows i ≡ Some f → flows' ≡ set flows i (with_core f (acts.expired f.core due))
    → ((m : ℕ) → ws1 m ≡ ws m)
    → ((told : List Row) → rows ≡ Some told → NoneBefore told ws (since + due))
    → GoesOn (since + due) round (first + i) f.label (acts.expired_letters f.core due) (acts.deadline (acts.expired f.core due)) ws1 ws2 sends sends' net net'
    → TurnsOn acts HasBegun since round first flows flows' counts counts ws2 now (since + due) rows sends sends' net net'
quiet_turns {C} acts IsNew HasBegun lawful since round first i due flows flows' f counts ws ws1 ws2 now rows sends sends' net net' u first_due here is same none goes =
    let core = acts.expired f.core due in
    let letters = acts.expired_letters f.core due in
    let e = first_due.due f here in
    let r = u.each i f first_due.within here in
    let v = r.waits due e in
    let c = goes.closes in
    let change = goes_changes first i (since + due) round letters (acts.deadline core) core flows flows' counts counts ws ws1 ws2 now sends sends' net net' f here is goes (λ m ne. same m) (λ k ne. refl) refl v.later in
    let adds = adds_here acts HasBegun since round first (length flows) (length flows') i flows flows' counts counts ws ws2 now (since + due) (map (sent_at (since + due) round (first + i) f.label) letters) sends sends' (with_core f core) u change in
    let r' = progress_expired acts IsNew HasBegun lawful since round now (ws (first + i)) (ws2 (first + i)) f (slice_index counts i) due r e c.done (λ d q. c.waits d q ∙ same (first + i)) in
    let soon : since + due ≤ since + time_limit = (let s = v.soon in omega (arith, s)) in
    record {
      progress = change_one acts HasBegun since round first (length flows) (length flows') i flows flows' counts counts ws ws2 now (since + due) _ sends sends' (with_core f core) u change soon
          (λ k g d lt ne at q. let le = first_due.least k d g lt at q in omega (arith, le)) r';
      follow = λ flows0 t. follow_one acts HasBegun since round first (length flows) (length flows') i flows0 flows flows' counts counts ws ws2 now (since + due) rows _ sends sends' f (with_core f core) u t change here refl
          (λ adds told is_told f0 here0.
          let old = t.each told is_told i f f0 first_due.within here here0 in
          let follows = follows_deadline acts f0.core f.core (arrivals told round f.label) (slice_index counts i) due old.out old.follows e
          (λ x at. let le = none told is_told (first + i) _ x v.open_is at in omega (arith, le)) in
          own_more acts since round (first + i) told f0 f core (slice_index counts i) (slice_index counts i) due now letters sends sends' old adds follows.0 follows.1);
      posted = λ start old. posted_more (since + due) round (first + i) f.label letters sends sends' start net net' old adds goes.posts;
      falls = subst (λ xs. calls_left acts xs counts < calls_left acts flows counts) (sym is) (calls_left_expired acts flows counts i f (with_core f core) here (lawful.falls f.core due r.begun e));
    }

-- what holds of the first deadline and its flow
pub due_facts : {C : Type 0} (acts : Acts C) (HasBegun : C → Type 0) (since round first i due : ℕ) (flows : List (Flow C)) (counts : List ℕ) (ws : ℕ → Option OpenFlow) (now : ℕ) (sends : List Sent)
    → AreInProgress acts HasBegun since round first (length flows) flows counts ws now sends
    → IsFirstDue acts flows (length flows) i due
    → (now ≤ since + due) × (due ≤ time_limit) × ((f : Flow C) → slice_get flows i ≡ Some f → HasBegun f.core × (acts.deadline f.core ≡ Some due))
due_facts acts HasBegun since round first i due flows counts ws now sends u first_due =
    let el = element_at flows i first_due.within in
    let e = first_due.due el.0 el.1 in
    let r = u.each i el.0 first_due.within el.1 in
    let v = r.waits due e in
    let soon = v.soon in
    (v.later, omega (arith, soon), λ f here. ((u.each i f first_due.within here).begun, first_due.due f here))

is_early : (at d : ℕ) (o : Option ℕ) → o ≡ Some d → at < d → IsEarly at o
is_early at d o e lt = subst (IsEarly at) (sym e) lt

-- what comes to a flow comes before its own deadline
pub came_facts : {C : Type 0} (acts : Acts C) (HasBegun : C → Type 0) (since round first i due flow : ℕ) (flows : List (Flow C)) (counts : List ℕ) (ws ws1 : ℕ → Option OpenFlow) (now time : ℕ) (sends : List Sent)
    → AreInProgress acts HasBegun since round first (length flows) flows counts ws now sends
    → IsFirstDue acts flows (length flows) i due
    → GivesTo flow ws ws1 → now ≤ time → time < since + due
    → (first ≤ flow) × (flow - first < length flows) × (since ≤ time) × ((f : Flow C) → slice_get flows (flow - first) ≡ Some f → HasBegun f.core × IsEarly (time - since) (acts.deadline f.core))
came_facts {C} acts HasBegun since round first i due flow flows counts ws ws1 now time sends u first_due gives later early =
    let p = came_place first (length flows) flow ws ws1 u.others gives in
    let low : first ≤ flow = p.0 in
    let high : flow < first + length flows = p.1 in
    let k = flow - first in
    let lt : k < length flows = omega (arith, low, high) in
    let begun = u.since_then in
    let number : flow ≡ first + k = omega (arith, low) in (
      low,
      lt,
      omega (arith, begun, later),
      λ f here.
          let r = u.each k f lt here in
          let w : ws (first + k) ≡ Some gives.flow = ap ws (sym number) ∙ gives.was in
          let d = came_waits acts HasBegun since round now (ws (first + k)) gives.flow f (slice_index counts k) r w in
          let le = first_due.least k d.0 f lt here d.1 in
          (r.begun, is_early (time - since) d.0 (acts.deadline f.core) d.1 (omega (arith, le, early, begun, later))),
    )

timed_is : (x : TimedArrival) (at : ℕ) (a : Arrival) → x.at ≡ at → x.arrival ≡ a → x ≡ record { at = at; arrival = a }
timed_is x at a p q = let T : ℕ → Arrival → TimedArrival = λ m b. record { at = m; arrival = b } in ap (λ m. T m x.arrival) p ∙ ap (T at) q

-- An arrival comes to the flow at k.
pub came_turns : {C : Type 0} (acts : Acts C) (IsNew HasBegun : C → Type 0) → AreLawful acts IsNew HasBegun → (since round first i due k at : ℕ) (a : Arrival) (flows flows' : List (Flow C)) (f : Flow C) (counts : List ℕ) (ws ws1 ws2 : ℕ → Option OpenFlow) (now : ℕ) (rows : Option (List Row)) (sends sends' : List Sent) (net net' : Option (List Outgoing))
    → AreInProgress acts HasBegun since round first (length flows) flows counts ws now sends
    → IsFirstDue acts flows (length flows) i due
    → GivesTo (first + k) ws ws1 → now ≤ since + at → at < due → k < length flows
    → slice_get flows k ≡ Some f → flows' ≡ set flows k (with_core f (unless_flooded acts (slice_index counts k + 1) (acts.arrived f.core at a)))
    → ((told : List Row) → rows ≡ Some told → (flow : OpenFlow) → ws (first + k) ≡ Some flow → IsNextOf told flow a (since + at))
    → GoesOn (since + at) round (first + k) f.label (acts.arrived_letters f.core at a) (acts.deadline (unless_flooded acts (slice_index counts k + 1) (acts.arrived f.core at a))) ws1 ws2 sends sends' net net'
    → TurnsOn acts HasBegun since round first flows flows' counts (set counts k (slice_index counts k + 1)) ws2 now (since + at) rows sends sends' net net'
came_turns {C} acts IsNew HasBegun lawful since round first i due k at a flows flows' f counts ws ws1 ws2 now rows sends sends' net net' u first_due gives later early lt here is earliest goes =
    let r = u.each k f lt here in
    let count = slice_index counts k in
    let d = came_waits acts HasBegun since round now (ws (first + k)) gives.flow f count r gives.was in
    let v = r.waits d.0 d.1 in
    let le = first_due.least k d.0 f lt here d.1 in
    let few = u.few_flows in
    let counts_long = u.counts_long in
    let in_counts : k < length counts = omega (arith, few, counts_long, lt) in
    let c = goes.closes in
    let core = unless_flooded acts (count + 1) (acts.arrived f.core at a) in
    let letters = acts.arrived_letters f.core at a in
    let counts' = set counts k (count + 1) in
    let change = goes_changes first k (since + at) round letters (acts.deadline core) core flows flows' counts counts' ws ws1 ws2 now sends sends' net net' f here is goes (λ m ne. gives.others m ne)
    (λ j ne. get_or-set_other counts k j (count + 1) 0 ne) (length-set counts k (count + 1)) later in
    let adds = adds_here acts HasBegun since round first (length flows) (length flows') k flows flows' counts counts' ws ws2 now (since + at) (map (sent_at (since + at) round (first + k) f.label) letters) sends sends' (with_core f core) u change in
    let given : Some (record gives.flow { given = gives.flow.given + 1 }) ≡ Some (record { since = since; round = round; label = f.label; given = count + 1 }) = ap (λ (w : OpenFlow). Some (record w { given = w.given + 1 })) d.2 in
    let r' = progress_arrived acts IsNew HasBegun lawful since round now (ws (first + k)) (ws2 (first + k)) f count d.0 at a r d.1 (omega (arith, le, early)) c.done (λ e q. c.waits e q ∙ (gives.this ∙ given)) in
    let same : slice_index counts' k ≡ count + 1 = get_or-set_same counts k (count + 1) 0 in_counts in
    let soon : since + at ≤ since + time_limit = (let s = v.soon in omega (arith, s, le, early)) in
    record {
      progress = change_one acts HasBegun since round first (length flows) (length flows') k flows flows' counts counts' ws ws2 now (since + at) _ sends sends' (with_core f core) u change soon
          (λ j g e ltj ne there q. let l = first_due.least j e g ltj there q in omega (arith, l, early))
          (subst (λ m. InProgress acts HasBegun since round (since + at) (ws2 (first + k)) (with_core f core) m) (sym same) r');
      follow = λ flows0 t. follow_one acts HasBegun since round first (length flows) (length flows') k flows0 flows flows' counts counts' ws ws2 now (since + at) rows _ sends sends' f (with_core f core) u t change here refl
          (λ adds told is_told f0 here0.
          let old = t.each told is_told k f f0 lt here here0 in
          let x = earliest told is_told _ v.open_is in
          let comes = x.comes in
          let when : x.next.at ≡ at = omega (arith, comes) in
          let next : slice_get (arrivals told round f.label) count ≡ Some (record { at = at; arrival = a }) = x.stands ∙ ap Some (timed_is x.next at a when x.same) in
          let follows = follows_arrival acts f0.core f.core (arrivals told round f.label) count d.0 (record { at = at; arrival = a }) old.out old.follows d.1 next (omega (arith, le, early)) in
          let P : ℕ → Type 0 = λ m. (o : FollowsOwn acts since round (first + k) told f0 (with_core f core) m (since + at) sends') × (since + o.follows.moment ≡ since + at) in
          subst P (sym same) (own_more acts since round (first + k) told f0 f core count (count + 1) at now letters sends sends' old adds follows.0 follows.1));
      posted = λ start old. posted_more (since + at) round (first + k) f.label letters sends sends' start net net' old adds goes.posts;
      falls = subst (λ xs. calls_left acts xs counts' < calls_left acts flows counts) (sym is) (calls_left_arrived acts flows counts k f (with_core f core) here in_counts counts_long u.counts_small v.counted r'.few);
    }

pub answers_came : (ws ws1 : ℕ → Option OpenFlow) (now until time flow : ℕ) (a : Arrival) (next : Next) → next ≡ Came flow a → Answers until ws now next ws1 time → GivesTo flow ws ws1 × (now ≤ time) × (time < until)
answers_came ws ws1 now until time flow a next e h = subst (λ n. Answers until ws now n ws1 time) e h

pub answers_quiet : (ws ws1 : ℕ → Option OpenFlow) (now until time : ℕ) (next : Next) → next ≡ Quiet → Answers until ws now next ws1 time → ((n : ℕ) → ws1 n ≡ ws n) × (time ≡ until)
answers_quiet ws ws1 now until time next e h = subst (λ n. Answers until ws now n ws1 time) e h

pub earliest_came : (rows : List Row) (ws : ℕ → Option OpenFlow) (until time flow : ℕ) (a : Arrival) (next : Next) → next ≡ Came flow a → IsEarliest until rows ws next time → (w : OpenFlow) → ws flow ≡ Some w → IsNextOf rows w a time
earliest_came rows ws until time flow a next e h = (subst (λ n. IsEarliest until rows ws n time) e h).0

pub earliest_quiet : (rows : List Row) (ws : ℕ → Option OpenFlow) (until time : ℕ) (next : Next) → next ≡ Quiet → IsEarliest until rows ws next time → NoneBefore rows ws until
earliest_quiet rows ws until time next e h = subst (λ n. IsEarliest until rows ws n time) e h
