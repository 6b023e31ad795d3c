-- What the calls of a player do with its flows.
use Rattle.std.proofs.Common.{◌≡◌, ◌≢◌, ◌<◌, ◌≤◌, ◌+◌, ◌-◌, ◌^◌, min, ℕ, zero, suc, Bool, List, [], ◌∷◌, ◌++◌, length, map, set, Option, Some, None, refl, sym, ap, subst, ◌∙◌, inl, inr, arith}
use Rattle.std.specs.Prelude.{slice_get, unwrap_or}
use Rattle.std.specs.Option.{option_map}
use Rattle.std.proofs.lemmas.Bool.{cases_eq}
use Rattle.std.proofs.lemmas.List.{length-set, length_push}
use Rattle.std.proofs.lemmas.Option.{slice_get-map, slice_get_within}
use Rattle.bd_dev.specs.declared.net.Arrival.{Arrival}
use Rattle.bd_dev.specs.Rows.{Row, TimedArrival, arrivals}
use Rattle.bd_dev.specs.Net.{Closes, GivesTo, IsNextOf, NoneBefore, OpenFlow, Opens}
use Rattle.bd_dev.proofs.Ordering.{arrivals-ordered}
use Rattle.bd_dev.proofs.Places.{slice_get-set_same, slice_get-set_other, slice_get-push_same, slice_get-push_other}
use Rattle.arrival_player.specs.declared.feeds.Spot.{Spot}
use Rattle.arrival_player.specs.declared.flows.Flow.{Flow}
use Rattle.arrival_player.specs.Spots.{timed_of}
use Rattle.arrival_player.specs.Earliest.{IsFirst, Precedes, next_time_of}
use Rattle.arrival_player.specs.Flows.{AdvancesAt, AreClosed, IsAt, IsSound, StandsAt, WaitsAt, flow_of, flows_of}
use Rattle.arrival_player.specs.Played.{ComesAt, flow_at}

-- the open flow of a number, by what is kept of it
abbrev read : Option (Option Flow) → Option OpenFlow
read found = unwrap_or (option_map (option_map flow_of) found) None

flow_at-read : (flows : List (Option Flow)) (n : ℕ) → flow_at (flows_of flows) n ≡ read (slice_get flows n)
flow_at-read flows n = let or_none : Option (Option OpenFlow) → Option OpenFlow = λ o. unwrap_or o None in ap or_none (slice_get-map (option_map flow_of) flows n)

flow_at-open : (flows : List (Option Flow)) (n : ℕ) (f : Flow) → slice_get flows n ≡ Some (Some f) → flow_at (flows_of flows) n ≡ Some (flow_of f)
flow_at-open flows n f e = flow_at-read flows n ∙ ap read e

flow_at-same : (old new : List (Option Flow)) (n : ℕ) → slice_get new n ≡ slice_get old n → flow_at (flows_of new) n ≡ flow_at (flows_of old) n
flow_at-same old new n e = flow_at-read new n ∙ (ap read e ∙ sym (flow_at-read old n))

kept_of : (found : Option (Option Flow)) (flow : OpenFlow) → read found ≡ Some flow → (f : Flow) × (found ≡ Some (Some f)) × (flow ≡ flow_of f)
kept_of None flow e = absurd (cc e)
kept_of (Some None) flow e = absurd (cc e)
kept_of (Some (Some f)) flow e = (f, refl, cc e)

-- what is kept of an open flow
kept_at : (flows : List (Option Flow)) (n : ℕ) (flow : OpenFlow) → flow_at (flows_of flows) n ≡ Some flow → (f : Flow) × (slice_get flows n ≡ Some (Some f)) × (flow ≡ flow_of f)
kept_at flows n flow is_open = kept_of (slice_get flows n) flow (sym (flow_at-read flows n) ∙ is_open)

-- the next arrival of a flow is that of the defined list
next_is : (made : ℕ → ℕ → Arrival) (rows : List Row) (time : ℕ) (f : Flow) → StandsAt made rows time f → slice_get (arrivals rows f.round f.label) f.given ≡ option_map (timed_of made) (slice_get f.spots.items f.given)
next_is made rows time f stands = ap (λ (timed : List TimedArrival). slice_get timed f.given) (sym stands.mine) ∙ slice_get-map (timed_of made) f.spots.items f.given

-- the flow of a number waits for an arrival that comes at this time
record Waits (flows : List (Option Flow)) (number time : ℕ) : Type 0 where
  f : Flow
  here : slice_get flows number ≡ Some (Some f)
  spot : Spot
  stands : slice_get f.spots.items f.given ≡ Some spot
  comes : time ≡ min (f.since + spot.at) (2 ^ 64 - 1)

waits_by : (flows : List (Option Flow)) (number time : ℕ) → slice_get (map next_time_of flows) number ≡ Some (Some time) → Waits flows number time
waits_by flows number time e = by_flow (slice_get flows number) refl (sym (slice_get-map next_time_of flows number) ∙ e)
  where
    by_timed : (f : Flow) (o : Option Spot) → slice_get flows number ≡ Some (Some f) → slice_get f.spots.items f.given ≡ o → option_map (λ (t : Spot). min (f.since + t.at) (2 ^ 64 - 1)) o ≡ Some time → Waits flows number time
    by_timed f None here stands h = absurd (cc h)
    by_timed f (Some timed) here stands h = record { f = f; here = here; spot = timed; stands = stands; comes = cc h }

    some_time : (a b : Option ℕ) → Some a ≡ Some b → a ≡ b
    some_time a b h = cc h

    by_flow : (o : Option (Option Flow)) → slice_get flows number ≡ o → option_map next_time_of o ≡ Some (Some time) → Waits flows number time
    by_flow None here h = absurd (cc h)
    by_flow (Some None) here h = absurd (let n = some_time None (Some time) h in cc n)
    by_flow (Some (Some f)) here h = by_timed f (slice_get f.spots.items f.given) here refl (some_time (next_time_of (Some f)) (Some time) h)

time_of : (flows : List (Option Flow)) (number : ℕ) (f : Flow) (timed : Spot) → slice_get flows number ≡ Some (Some f) → slice_get f.spots.items f.given ≡ Some timed → slice_get (map next_time_of flows) number ≡ Some (Some (min (f.since + timed.at) (2 ^ 64 - 1)))
time_of flows number f timed here stands =
    slice_get-map next_time_of flows number ∙ (ap (option_map next_time_of) here
    ∙ ap (λ o. Some (option_map (λ (t : Spot). min (f.since + t.at) (2 ^ 64 - 1)) o)) stands)

timed_by : (made : ℕ → ℕ → Arrival) (o : Option Spot) (next : TimedArrival) → option_map (timed_of made) o ≡ Some next → (timed : Spot) × (o ≡ Some timed) × (next ≡ timed_of made timed)
timed_by made None next e = absurd (cc e)
timed_by made (Some timed) next e = (timed, refl, cc e)

-- the next arrival of an open flow has a spot
next_spot : (made : ℕ → ℕ → Arrival) (rows : List Row) (flows : List (Option Flow)) (now shut number : ℕ) (flow : OpenFlow) (next : TimedArrival) → IsSound made rows flows now shut → flow_at (flows_of flows) number ≡ Some flow → slice_get (arrivals rows flow.round flow.label) flow.given ≡ Some next
    → (f : Flow) × (slice_get flows number ≡ Some (Some f)) × ((spot : Spot) × (slice_get f.spots.items f.given ≡ Some spot) × (next.at ≡ spot.at)) × (flow.since ≡ f.since)
next_spot made rows flows now shut number flow next sound is_open stands =
    let w = kept_at flows number flow is_open in
    let there = subst (λ (x : OpenFlow). slice_get (arrivals rows x.round x.label) x.given ≡ Some next) w.2 stands in
    let t = timed_by made (slice_get w.0.spots.items w.0.given) next (sym (next_is made rows now w.0 (sound.stands number w.0 w.1)) ∙ there) in
    let at : next.at ≡ t.0.at = ap (λ x. x.at) t.2 in
    let since : flow.since ≡ w.0.since = ap (λ x. x.since) w.2 in
    (w.0, w.1, (t.0, t.1, at), since)

-- nothing comes before a time that comes before all times
pub none_before : (made : ℕ → ℕ → Arrival) (rows : List Row) (flows : List (Option Flow)) (now shut time : ℕ) → IsSound made rows flows now shut → time < 2 ^ 64 → ((k t : ℕ) → k < length flows → slice_get (map next_time_of flows) k ≡ Some (Some t) → time ≤ t) → NoneBefore rows (flow_at (flows_of flows)) time
none_before made rows flows now shut time sound fits least = λ n flow next is_open stands.
    let w = next_spot made rows flows now shut n flow next sound is_open stands in
    let le = least n (min (w.0.since + w.2.0.at) (2 ^ 64 - 1)) (slice_get_within flows n (Some w.0) w.1) (time_of flows n w.0 w.2.0 w.1 w.2.1) in
    let at = w.2.2 in
    let since = w.3 in
    omega (arith, le, at, since, fits)

-- the flow that comes first
pub record Comes (flows : List (Option Flow)) (number time : ℕ) : Type 0 where
  pub f : Flow
  pub here : slice_get flows number ≡ Some (Some f)
  pub spot : Spot
  pub stands : slice_get f.spots.items f.given ≡ Some spot
  pub comes : time ≡ f.since + spot.at

pub comes_first : (late : Bool) (until : ℕ) (flows : List (Option Flow)) (number time : ℕ) → until < 2 ^ 64 → IsFirst late until (map next_time_of flows) (length flows) number time → Comes flows number time
comes_first late until flows number time fits first =
    let w = waits_by flows number time first.here in
    let early = first.early in
    let when = w.comes in
    record { f = w.f; here = w.here; spot = w.spot; stands = w.stands; comes = omega (arith, when, early, fits) }

pub waits_at : (late : Bool) (until : ℕ) (flows : List (Option Flow)) (number time : ℕ) → IsFirst late until (map next_time_of flows) (length flows) number time → WaitsAt flows number
waits_at late until flows number time first =
    let w = waits_by flows number time first.here in
    record { f = w.f; here = w.here; waits = slice_get_within w.f.spots.items w.f.given w.spot w.stands }

same_flow : (flows : List (Option Flow)) (number : ℕ) (a b : Flow) → slice_get flows number ≡ Some (Some a) → slice_get flows number ≡ Some (Some b) → a ≡ b
same_flow flows number a b e h = let both : Some (Some a) ≡ Some (Some b) = sym e ∙ h in some_same a b (some_some (Some a) (Some b) both)
  where
    some_same : (a b : Flow) → Some a ≡ Some b → a ≡ b
    some_same a b e = cc e

    some_some : (a b : Option Flow) → Some a ≡ Some b → a ≡ b
    some_some a b e = cc e

after_at : (old new : List (Option Flow)) (number : ℕ) (f next : Flow) → slice_get old number ≡ Some (Some f) → new ≡ set old number (Some next) → slice_get new number ≡ Some (Some next)
after_at old new number f next here is = ap (λ xs. slice_get xs number) is ∙ slice_get-set_same old number (Some next) (slice_get_within old number (Some f) here)

others_at : (old new : List (Option Flow)) (number : ℕ) (o : Option Flow) (n : ℕ) → new ≡ set old number o → n ≢ number → slice_get new n ≡ slice_get old n
others_at old new number o n is ne = ap (λ xs. slice_get xs n) is ∙ slice_get-set_other old number n o ne

pub gives_to : (old new : List (Option Flow)) (number : ℕ) → AdvancesAt old new number → GivesTo number (flow_at (flows_of old)) (flow_at (flows_of new))
gives_to old new number a = record {
  flow = flow_of a.f;
  was = flow_at-open old number a.f a.here;
  this = flow_at-open new number (record a.f { given = a.f.given + 1 }) (after_at old new number a.f (record a.f { given = a.f.given + 1 }) a.here a.set);
  others = λ n ne. flow_at-same old new n (others_at old new number (Some (record a.f { given = a.f.given + 1 })) n a.set ne);
}

pub is_next_of : (made : ℕ → ℕ → Arrival) (rows : List Row) (old : List (Option Flow)) (now shut number : ℕ) (spot : Spot) (arrival : Arrival) (time : ℕ) → IsSound made rows old now shut → Comes old number time → IsAt old number spot → arrival ≡ made spot.feed spot.part → (flow : OpenFlow) → flow_at (flows_of old) number ≡ Some flow → IsNextOf rows flow arrival time
is_next_of made rows old now shut number spot arrival time sound comes at is flow is_open =
    let w = kept_at old number flow is_open in
    let same = same_flow old number comes.f w.0 comes.here w.1 in
    let stands = next_is made rows now comes.f (sound.stands number comes.f comes.here) ∙ ap (option_map (timed_of made)) comes.stands in
    let here : comes.spot ≡ spot = some_spot comes.spot spot (sym comes.stands ∙ at comes.f comes.here) in
    let given : made comes.spot.feed comes.spot.part ≡ arrival = ap (λ (s : Spot). made s.feed s.part) here ∙ sym is in
    subst (λ f. IsNextOf rows f arrival time) (ap flow_of same ∙ sym w.2) (record { next = timed_of made comes.spot; stands = stands; same = given; comes = comes.comes })
  where
    some_spot : (a b : Spot) → Some a ≡ Some b → a ≡ b
    some_spot a b e = cc e

pub not_before : (made : ℕ → ℕ → Arrival) (rows : List Row) (old : List (Option Flow)) (now shut number time : ℕ) → IsSound made rows old now shut → Comes old number time → now ≤ time
not_before made rows old now shut number time sound comes =
    let due = (sound.stands number comes.f comes.here).due comes.spot comes.stands in
    let when = comes.comes in
    omega (arith, due, when)

stands_after : (made : ℕ → ℕ → Arrival) (rows : List Row) (old : List (Option Flow)) (now number time : ℕ) (f : Flow) → StandsAt made rows now f → slice_get old number ≡ Some (Some f) → Comes old number time → StandsAt made rows time (record f { given = f.given + 1 })
stands_after made rows old now number time f stands here c =
    let same = same_flow old number c.f f c.here here in
    let first : slice_get f.spots.items f.given ≡ Some c.spot = subst (λ (x : Flow). slice_get x.spots.items x.given ≡ Some c.spot) same c.stands in
    let since : c.f.since ≡ f.since = ap (λ x. x.since) same in
    let when = c.comes in
    let listed : (i : ℕ) (t : Spot) → slice_get f.spots.items i ≡ Some t → slice_get (arrivals rows f.round f.label) i ≡ Some (timed_of made t) = λ i t e.
    ap (λ (timed : List TimedArrival). slice_get timed i) (sym stands.mine) ∙ (slice_get-map (timed_of made) f.spots.items i ∙ ap (option_map (timed_of made)) e) in
    record {
      mine = stands.mine;
      due = λ t e. (let le : c.spot.at ≤ t.at = arrivals-ordered rows f.round f.label f.given (f.given + 1) (timed_of made c.spot) (timed_of made t) (omega arith) (listed f.given c.spot first) (listed (f.given + 1) t e) in
          omega (arith, le, when, since));
    }

-- nothing is overdue after a flow was given its next arrival
pub sound_after : (made : ℕ → ℕ → Arrival) (late : Bool) (until : ℕ) (rows : List Row) (old new : List (Option Flow)) (now shut number time : ℕ) → until < 2 ^ 64 → IsSound made rows old now shut → IsFirst late until (map next_time_of old) (length old) number time → AdvancesAt old new number → IsSound made rows new time shut
sound_after made late until rows old new now shut number time fits sound first a =
    let next = record a.f { given = a.f.given + 1 } in
    record {
      few = (let n = ap length a.set ∙ length-set old number (Some next) in let few = sound.few in omega (arith, n, few));
      closed = λ k lt. elim (cases_eq k number) [
        | inl same ↦ absurd (let here = subst (λ m. slice_get old m ≡ Some None) same (sound.closed k lt) in let there = a.here in some_other None a.f (sym here ∙ there) refl)
        | inr ne ↦ others_at old new number (Some next) k a.set ne ∙ sound.closed k lt
      ];
      stands = λ n f here. elim (cases_eq n number) [
        | inl same ↦ (let here' = subst (λ m. slice_get new m ≡ Some (Some f)) same here in
            let is : next ≡ f = same_flow new number next f (after_at old new number a.f next a.here a.set) here' in
            subst (StandsAt made rows time) is (stands_after made rows old now number time a.f (sound.stands number a.f a.here) a.here (comes_first late until old number time fits first)))
        | inr ne ↦ (let here' = sym (others_at old new number (Some next) n a.set ne) ∙ here in
            let s = sound.stands n f here' in
            record {
              mine = s.mine;
              due = λ t e. (let le = first.least n (min (f.since + t.at) (2 ^ 64 - 1)) (slice_get_within old n (Some f) here') (time_of old n f t here' e) in
                  let early = first.early in
                  omega (arith, le, early, fits));
            })
      ];
    }
  where
    some_other : (o : Option Flow) (f : Flow) → Some o ≡ Some (Some f) → o ≡ None → ⊥
    some_other None f e h = let n = inner None (Some f) e in cc n
      where
        inner : (a b : Option Flow) → Some a ≡ Some b → a ≡ b
        inner a b e = cc e
    some_other (Some g) f e h = cc h

-- the time comes, and nothing was due before
pub sound_quiet : (made : ℕ → ℕ → Arrival) (rows : List Row) (flows : List (Option Flow)) (now shut until : ℕ) → until < 2 ^ 64 → IsSound made rows flows now shut → ((k t : ℕ) → k < length flows → slice_get (map next_time_of flows) k ≡ Some (Some t) → until ≤ t) → IsSound made rows flows until shut
sound_quiet made rows flows now shut until fits sound none = record {
  few = sound.few;
  closed = sound.closed;
  stands = λ n f here. (let s = sound.stands n f here in record {
    mine = s.mine;
    due = λ t e. (let le = none n (min (f.since + t.at) (2 ^ 64 - 1)) (slice_get_within flows n (Some f) here) (time_of flows n f t here e) in omega (arith, le, fits));
  });
}

-- of flows of one time, the first or the last one is given
pub picked : (made : ℕ → ℕ → Arrival) (late : Bool) (until : ℕ) (rows : List Row) (flows : List (Option Flow)) (now shut number time : ℕ) → until < 2 ^ 64 → IsSound made rows flows now shut → IsFirst late until (map next_time_of flows) (length flows) number time → (other : ℕ) (flow : OpenFlow) → flow_at (flows_of flows) other ≡ Some flow → ComesAt rows flow time → Precedes late number other
picked made late until rows flows now shut number time fits sound first other flow is_open comes =
    let w = next_spot made rows flows now shut other flow comes.next sound is_open comes.stands in
    let when = comes.comes in
    let at = w.2.2 in
    let since = w.3 in
    let early = first.early in
    let same : min (w.0.since + w.2.0.at) (2 ^ 64 - 1) ≡ time = omega (arith, when, at, since, early, fits) in
    first.tie other (slice_get_within flows other (Some w.0) w.1) (time_of flows other w.0 w.2.0 w.1 w.2.1 ∙ ap (λ t. Some (Some t)) same)

-- a flow that is opened
pub opens_push : (old : List (Option Flow)) (time round : ℕ) (label : List ℕ) (f : Flow) → flow_of f ≡ record { since = time; round = round; label = label; given = 0 } → Opens time round label (length old) (flow_at (flows_of old)) (flow_at (flows_of (old ++ Some f ∷ [])))
opens_push old time round label f is = record {
  this = flow_at-open (old ++ Some f ∷ []) (length old) f (slice_get-push_same old (Some f)) ∙ ap (λ (x : OpenFlow). Some x) is;
  others = λ n ne. flow_at-same old (old ++ Some f ∷ []) n (slice_get-push_other old (Some f) n ne);
}

pub sound_push : (made : ℕ → ℕ → Arrival) (rows : List Row) (old : List (Option Flow)) (now shut : ℕ) (f : Flow) → length old < 2 ^ 32 - 1 → IsSound made rows old now shut → map (timed_of made) f.spots.items ≡ arrivals rows f.round f.label → f.since ≡ now → IsSound made rows (old ++ Some f ∷ []) now shut
sound_push made rows old now shut f room sound mine since =
    let new = old ++ Some f ∷ [] in
    record {
      few = (let n = length_push old (Some f) in omega (arith, n, room));
      closed = λ k lt. (let here = sound.closed k lt in let within = slice_get_within old k None here in slice_get-push_other old (Some f) k (λ e. absurd (omega (arith, e, within))) ∙ here);
      stands = λ n g here. elim (cases_eq n (length old)) [
        | inl same ↦ (let here' = subst (λ m. slice_get new m ≡ Some (Some g)) same here in
            subst (StandsAt made rows now) (same_flow new (length old) f g (slice_get-push_same old (Some f)) here') (record { mine = mine; due = λ t e. omega (arith, since) }))
        | inr ne ↦ sound.stands n g (sym (slice_get-push_other old (Some f) n ne) ∙ here)
      ];
    }

set_none : (flows : List (Option Flow)) (number : ℕ) → read (slice_get (set flows number None) number) ≡ None
set_none [] number = refl
set_none (flow ∷ flows) zero = refl
set_none (flow ∷ flows) (suc number) = set_none flows number

-- a flow that is closed
pub closes_at : (flows : List (Option Flow)) (number : ℕ) → Closes number (flow_at (flows_of flows)) (flow_at (flows_of (set flows number None)))
closes_at flows number = record {
  this = flow_at-read (set flows number None) number ∙ set_none flows number;
  others = λ n ne. flow_at-same flows (set flows number None) n (slice_get-set_other flows number n None ne);
}

-- closed flows stay closed
pub closed_set : (flows : List (Option Flow)) (number shut : ℕ) → AreClosed flows shut → AreClosed (set flows number None) shut
closed_set flows number shut closed = λ k lt. elim (cases_eq k number) [
  | inl same ↦ (let within = slice_get_within flows k None (closed k lt) in
      subst (λ m. slice_get (set flows number None) m ≡ Some None) (sym same) (slice_get-set_same flows number None (omega (arith, within, same))))
  | inr ne ↦ slice_get-set_other flows number k None ne ∙ closed k lt
]

pub sound_close : (made : ℕ → ℕ → Arrival) (rows : List Row) (flows : List (Option Flow)) (now shut number next : ℕ) → IsSound made rows flows now shut → AreClosed (set flows number None) next → IsSound made rows (set flows number None) now next
sound_close made rows flows now shut number next sound closed = record {
  few = (let n = length-set flows number None in let few = sound.few in omega (arith, n, few));
  closed = closed;
  stands = λ n f here. elim (cases_eq n number) [
    | inl same ↦ absurd (let here' = subst (λ m. slice_get (set flows number None) m ≡ Some (Some f)) same here in
        let is = sym (set_none flows number) ∙ ap read here' in cc is)
    | inr ne ↦ sound.stands n f (sym (slice_get-set_other flows number n None ne) ∙ here)
  ];
}

-- before the first call
pub sound_new : (made : ℕ → ℕ → Arrival) (rows : List Row) (flows : List (Option Flow)) → flows ≡ [] → IsSound made rows flows 0 0
sound_new made rows flows none = record {
  few = (let n = ap length none in omega (arith, n));
  closed = λ k lt. absurd (omega (arith, lt));
  stands = λ n f here. absurd (let e = sym (ap (λ xs. slice_get xs n) none) ∙ here in cc e);
}
