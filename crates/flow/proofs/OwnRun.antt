-- The steps of a core's own run.
use Rattle.std.proofs.Common.{◌≡◌, ℕ, zero, suc, ◌+◌, ◌<◌, ◌≤◌, Bool, true, false, List, [], ◌∷◌, ◌++◌, length, drop, refl, ◌∙◌, ap, sym, arith, append-nil, append_assoc, Option, Some, None, max}
use Rattle.std.specs.Prelude.{slice_get, nat_lt, is_some, ◌==◌, ◌&&◌, if◌then◌else◌}
use Rattle.std.proofs.lemmas.Bool.Decides.{nat_tests}
use Rattle.bd_dev.specs.Rows.{TimedArrival}
use Rattle.flow.specs.Core.{Acts, Lasts, AreLawful}
use Rattle.flow.specs.Own.{State, TimedLetter, timed, unless_flooded, at_deadline, at_arrival, own_next_by, own_next, own_letters_by, own_letters, after_steps, letters_in_steps, start, enough, own_end, own_sends}
use Rattle.flow.specs.Running.{Reaches, Follows}
use Rattle.bd_dev.proofs.Places.{drop_some}

pub after_steps-last : {C : Type 0} (acts : Acts C) (k : ℕ) (s : State C) → after_steps acts (suc k) s ≡ own_next acts (after_steps acts k s)
after_steps-last acts zero s = refl
after_steps-last acts (suc k) s = after_steps-last acts k (own_next acts s)

pub letters_in_steps-last : {C : Type 0} (acts : Acts C) (k : ℕ) (s : State C) → letters_in_steps acts (suc k) s ≡ letters_in_steps acts k s ++ own_letters acts (after_steps acts k s)
letters_in_steps-last acts zero s = append-nil (own_letters acts s)
letters_in_steps-last acts (suc k) s = ap (λ ys. own_letters acts s ++ ys) (letters_in_steps-last acts k (own_next acts s)) ∙ sym (append_assoc (own_letters acts s) _ _)

-- a core that is done takes no more steps
next_done : {C : Type 0} (acts : Acts C) (s : State C) → acts.deadline s.core ≡ None → own_next acts s ≡ s
next_done acts s e = let f : Option ℕ → State _ = λ o. own_next_by acts s o s.rest in ap f e

posted_done : {C : Type 0} (acts : Acts C) (s : State C) → acts.deadline s.core ≡ None → own_letters acts s ≡ []
posted_done acts s e = let f : Option ℕ → List TimedLetter = λ o. own_letters_by acts s o s.rest in ap f e

pub after_done : {C : Type 0} (acts : Acts C) (k : ℕ) (s : State C) → acts.deadline s.core ≡ None → after_steps acts k s ≡ s
after_done acts zero s e = refl
after_done acts (suc k) s e = let same = next_done acts s e in ap (after_steps acts k) same ∙ after_done acts k s e

pub posted_in_done : {C : Type 0} (acts : Acts C) (k : ℕ) (s : State C) → acts.deadline s.core ≡ None → letters_in_steps acts k s ≡ []
posted_in_done acts zero s e = refl
posted_in_done acts (suc k) s e = ap (λ ys. ys ++ letters_in_steps acts k (own_next acts s)) (posted_done acts s e) ∙ (ap (letters_in_steps acts k) (next_done acts s e) ∙ posted_in_done acts k s e)

-- however many steps lead to an end, it is the same end, and the same is sent
pub same_end : {C : Type 0} (acts : Acts C) (j k : ℕ) (s : State C) → acts.deadline ((after_steps acts j s).core) ≡ None → acts.deadline ((after_steps acts k s).core) ≡ None → (after_steps acts j s ≡ after_steps acts k s) × (letters_in_steps acts j s ≡ letters_in_steps acts k s)
same_end acts zero k s d e = (sym (after_done acts k s d), sym (posted_in_done acts k s d))
same_end acts (suc j) zero s d e = (after_done acts (suc j) s e, posted_in_done acts (suc j) s e)
same_end acts (suc j) (suc k) s d e = let rest = same_end acts j k (own_next acts s) d e in (rest.0, ap (λ ys. own_letters acts s ++ ys) rest.1)

-- a step of a core that isn't done: its deadline
pub next_deadline : {C : Type 0} (acts : Acts C) (s : State C) (d : ℕ) → acts.deadline s.core ≡ Some d → ((x : TimedArrival) (xs : List TimedArrival) → s.rest ≡ x ∷ xs → d ≤ x.at) → (own_next acts s ≡ at_deadline acts s d) × (own_letters acts s ≡ timed d (acts.expired_letters s.core d))
next_deadline acts s d e late = next_deadline_by acts s d s.rest e (λ x xs r. late x xs r)
  where
    next_deadline_by : {C : Type 0} (acts : Acts C) (s : State C) (d : ℕ) (rest : List TimedArrival) → acts.deadline s.core ≡ Some d → ((x : TimedArrival) (xs : List TimedArrival) → rest ≡ x ∷ xs → d ≤ x.at) → (own_next_by acts s (acts.deadline s.core) rest ≡ at_deadline acts s d) × (own_letters_by acts s (acts.deadline s.core) rest ≡ timed d (acts.expired_letters s.core d))
    next_deadline_by acts s d [] e late = rw e (refl, refl)
    next_deadline_by acts s d (x ∷ xs) e late = let no : d ≤ x.at = late x xs refl in let f : nat_lt x.at d ≡ false = grind (arith, nat_tests) in rw (e, f) (refl, refl)

-- or what comes before it
pub next_arrival : {C : Type 0} (acts : Acts C) (s : State C) (d : ℕ) (x : TimedArrival) (xs : List TimedArrival) → acts.deadline s.core ≡ Some d → s.rest ≡ x ∷ xs → x.at < d → (own_next acts s ≡ at_arrival acts s x xs) × (own_letters acts s ≡ timed x.at (acts.arrived_letters s.core x.at x.arrival))
next_arrival acts s d x xs e r lt = let f : nat_lt x.at d ≡ true = grind (arith, nat_tests) in rw (e, r, f) (refl, refl)

-- one step further along
pub reaches_next : {C : Type 0} (acts : Acts C) (begin end : State C) (out : List TimedLetter) → Reaches acts begin end out → Reaches acts begin (own_next acts end) (out ++ own_letters acts end)
reaches_next acts begin end out reaches = record {
  steps = suc reaches.steps;
  state = after_steps-last acts reaches.steps begin ∙ ap (own_next acts) reaches.state;
  sent = ap (λ ys. ys ++ own_letters acts end) reaches.sent ∙ (ap (λ s. letters_in_steps acts reaches.steps begin ++ own_letters acts s) (sym reaches.state) ∙ sym (letters_in_steps-last acts reaches.steps begin));
}

pub follows_start : {C : Type 0} (acts : Acts C) (core : C) (comes : List TimedArrival) → (f : Follows acts core comes (acts.begun core) 0 []) × (f.moment ≡ 0)
follows_start acts core comes = (record { moment = 0; reaches = record { steps = 0; state = refl; sent = refl } }, refl)

pub follows_deadline : {C : Type 0} (acts : Acts C) (core0 core : C) (comes : List TimedArrival) (count d : ℕ) (out : List TimedLetter) → Follows acts core0 comes core count out → acts.deadline core ≡ Some d → ((x : TimedArrival) → slice_get comes count ≡ Some x → d ≤ x.at)
    → (f : Follows acts core0 comes (acts.expired core d) count (out ++ timed d (acts.expired_letters core d))) × (f.moment ≡ d)
follows_deadline {C} acts core0 core comes count d out h e late =
    let s : State C = record { core = core; count = count; rest = drop count comes; moment = h.moment } in
    let step = next_deadline acts s d e (λ x xs r. late x (head_drop comes count x xs r)) in
    (record { moment = d; reaches = rw (step.0, step.1) at (reaches_next acts (start acts core0 comes) s out h.reaches) }, refl)
  where
    head_drop : (comes : List TimedArrival) (count : ℕ) (x : TimedArrival) (xs : List TimedArrival) → drop count comes ≡ x ∷ xs → slice_get comes count ≡ Some x
    head_drop [] zero x xs r = absurd (cc r)
    head_drop [] (suc n) x xs r = absurd (cc r)
    head_drop (y ∷ ys) zero x xs r = let same : y ≡ x = cc r in ap Some same
    head_drop (y ∷ ys) (suc n) x xs r = head_drop ys n x xs r

pub follows_arrival : {C : Type 0} (acts : Acts C) (core0 core : C) (comes : List TimedArrival) (count d : ℕ) (x : TimedArrival) (out : List TimedLetter) → Follows acts core0 comes core count out → acts.deadline core ≡ Some d → slice_get comes count ≡ Some x → x.at < d
    → (f : Follows acts core0 comes (unless_flooded acts (count + 1) (acts.arrived core x.at x.arrival)) (count + 1) (out ++ timed x.at (acts.arrived_letters core x.at x.arrival))) × (f.moment ≡ x.at)
follows_arrival {C} acts core0 core comes count d x out h e here lt =
    let s : State C = record { core = core; count = count; rest = drop count comes; moment = h.moment } in
    let step = next_arrival acts s d x (drop (count + 1) comes) e (drop_some comes count x here) lt in
    (record { moment = x.at; reaches = rw (step.0, step.1) at (reaches_next acts (start acts core0 comes) s out h.reaches) }, refl)

-- a core that begins comes to its end in the steps that are enough
record Good {C : Type 0} (acts : Acts C) (HasBegun : C → Type 0) (s : State C) : Type 0 where
  begun : HasBegun s.core
  few : acts.left s.core ≤ 8

unless_flooded_lasts : {C : Type 0} (acts : Acts C) (IsNew HasBegun : C → Type 0) → AreLawful acts IsNew HasBegun → (count low high : ℕ) (c : C) → Lasts acts HasBegun low high c → HasBegun (unless_flooded acts count c) × (acts.left (unless_flooded acts count c) ≤ 8)
unless_flooded_lasts acts IsNew HasBegun lawful count low high c lasts =
    elim (count == 131072) as (λ b. HasBegun (if b && is_some (acts.deadline c) then acts.flooded c else c) × (acts.left (if b && is_some (acts.deadline c) then acts.flooded c else c) ≤ 8)) [
      | false ↦ (lasts.begun, lasts.few)
      | true ↦ elim (is_some (acts.deadline c)) as (λ b. HasBegun (if b then acts.flooded c else c) × (acts.left (if b then acts.flooded c else c) ≤ 8)) [
        | false ↦ (lasts.begun, lasts.few)
        | true ↦ (let f = lawful.floods c lasts.begun in (f.begun, f.few))
      ]
    ]

good_next : {C : Type 0} (acts : Acts C) (IsNew HasBegun : C → Type 0) → AreLawful acts IsNew HasBegun → (s : State C) (d : ℕ) (rest : List TimedArrival) → s.rest ≡ rest → acts.deadline s.core ≡ Some d → Good acts HasBegun s
    → Good acts HasBegun (own_next_by acts s (Some d) rest) × (enough acts (own_next_by acts s (Some d) rest) < enough acts s)
good_next acts IsNew HasBegun lawful s d [] r e good =
    let l = lawful.expires s.core d good.begun e in
    let f = lawful.falls s.core d good.begun e in
    (record { begun = l.begun; few = l.few }, omega arith)
good_next acts IsNew HasBegun lawful s d (x ∷ rest) r e good =
    cases (nat_lt x.at d) refl
  where
    cases : (b : Bool) → nat_lt x.at d ≡ b → Good acts HasBegun (if b then at_arrival acts s x rest else at_deadline acts s d) × (enough acts (if b then at_arrival acts s x rest else at_deadline acts s d) < enough acts s)
    cases true t =
        let lt : x.at < d = grind (arith, nat_tests) in
        let l = lawful.arrives s.core d x.at x.arrival good.begun e lt in
        let u = unless_flooded_lasts acts IsNew HasBegun lawful (s.count + 1) x.at (max d (x.at + 60000)) (acts.arrived s.core x.at x.arrival) l in
        let n : length s.rest ≡ suc (length rest) = ap length r in
        (record { begun = u.0; few = u.1 }, omega (arith, u.1, n))
    cases false t =
        let l = lawful.expires s.core d good.begun e in
        let f = lawful.falls s.core d good.begun e in
        (record { begun = l.begun; few = l.few }, omega (arith, f))

pub ends_by : {C : Type 0} (acts : Acts C) (IsNew HasBegun : C → Type 0) → AreLawful acts IsNew HasBegun → (k : ℕ) (s : State C) → HasBegun s.core → acts.left s.core ≤ 8 → enough acts s ≤ k → acts.deadline ((after_steps acts k s).core) ≡ None
ends_by acts IsNew HasBegun lawful zero s stands few le =
    by_deadline (acts.deadline s.core) refl
  where
    by_deadline : (o : Option ℕ) → acts.deadline s.core ≡ o → acts.deadline s.core ≡ None
    by_deadline None e = e
    by_deadline (Some d) e = absurd (let g = good_next acts IsNew HasBegun lawful s d s.rest refl e (record { begun = stands; few = few }) in omega (arith, g.1))
ends_by {C} acts IsNew HasBegun lawful (suc k) s stands few le =
    by_deadline (acts.deadline s.core) refl (λ t stands' few' le'. ends_by acts IsNew HasBegun lawful k t stands' few' le')
  where
    by_deadline : (o : Option ℕ) → acts.deadline s.core ≡ o → ((t : State C) → HasBegun t.core → acts.left t.core ≤ 8 → enough acts t ≤ k → acts.deadline ((after_steps acts k t).core) ≡ None) → acts.deadline ((after_steps acts k (own_next_by acts s (acts.deadline s.core) s.rest)).core) ≡ None
    by_deadline None e more = rw e (rw (after_done acts k s e) e)
    by_deadline (Some d) e more = let g = good_next acts IsNew HasBegun lawful s d s.rest refl e (record { begun = stands; few = few }) in
        rw e (more (own_next_by acts s (Some d) s.rest) g.0.begun g.0.few (omega (arith, g.1)))

-- A core that is done along its own way is at the end of its own run.
pub follows_to_end : {C : Type 0} (acts : Acts C) (IsNew HasBegun : C → Type 0) → AreLawful acts IsNew HasBegun → (core0 core : C) (comes : List TimedArrival) (count : ℕ) (out : List TimedLetter) → IsNew core0 → (h : Follows acts core0 comes core count out) → acts.deadline core ≡ None
    → ((own_end acts core0 comes).core ≡ core) × (own_sends acts core0 comes ≡ timed 0 (acts.begun_letters core0) ++ out) × ((own_end acts core0 comes).moment ≡ h.moment)
follows_to_end acts IsNew HasBegun lawful core0 core comes count out new h e =
    let s = start acts core0 comes in
    let l = lawful.begins core0 new in
    let ended = ends_by acts IsNew HasBegun lawful (enough acts s) s l.begun l.few (omega arith) in
    let here : acts.deadline ((after_steps acts h.reaches.steps s).core) ≡ None = ap (λ t. acts.deadline (t.core)) h.reaches.state ∙ e in
    let same = same_end acts (enough acts s) h.reaches.steps s ended here in
    (ap (λ t. t.core) (same.0 ∙ h.reaches.state), ap (λ ys. timed 0 (acts.begun_letters core0) ++ ys) (same.1 ∙ sym h.reaches.sent), ap (λ t. t.moment) (same.0 ∙ h.reaches.state))
