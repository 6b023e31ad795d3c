-- What one call of a core leads to.
use Rattle.std.proofs.Common.{◌≡◌, ◌≢◌, ◌<◌, ◌≤◌, ◌+◌, ◌-◌, ◌*◌, ◌⊎◌, inl, inr, ℕ, max, Bool, true, false, Option, Some, None, refl, arith, ap, sym, subst, ◌∙◌, List, length, get_or, set}
use Rattle.std.specs.Prelude.{slice_get, slice_index, ◌==◌, ◌&&◌, is_some, nat_lt, if◌then◌else◌, sum}
use Rattle.std.proofs.lemmas.Bool.Decides.{nat_tests}
use Rattle.std.proofs.lemmas.Bool.{cases_eq}
use Rattle.std.proofs.lemmas.List.Sums.{sum_by-set, sum_by-le}
use Rattle.std.proofs.lemmas.List.{get_or_default, get_or-set_same, get_or-set_other, length-set}
use Rattle.std.proofs.lemmas.Option.{slice_get_within, get_or_from_slice_get}
use Rattle.bd_dev.specs.declared.net.Arrival.{Arrival}
use Rattle.bd_dev.specs.Net.{GivesTo, OpenFlow}
use Rattle.flow.specs.declared.flows.Flow.{Flow}
use Rattle.flow.specs.Core.{Acts, Lasts, AreLawful}
use Rattle.flow.specs.Own.{unless_flooded}
use Rattle.flow.specs.Running.{with_core, InProgress, IsShut, calls_left}

-- the deadline d passes
pub progress_expired : {C : Type 0} (acts : Acts C) (IsNew HasBegun : C → Type 0) → AreLawful acts IsNew HasBegun → (since round now : ℕ) (w w' : Option OpenFlow) (f : Flow C) (count d : ℕ)
    → InProgress acts HasBegun since round now w f count → acts.deadline f.core ≡ Some d
    → (acts.deadline (acts.expired f.core d) ≡ None → w' ≡ None) → ((e : ℕ) → acts.deadline (acts.expired f.core d) ≡ Some e → w' ≡ w)
    → InProgress acts HasBegun since round (since + d) w' (with_core f (acts.expired f.core d)) count
progress_expired acts IsNew HasBegun lawful since round now w w' f count d r e closed stays =
    let l = lawful.expires f.core d r.begun e in
    let fall = lawful.falls f.core d r.begun e in
    let v = r.waits d e in
    record {
      begun = l.begun;
      few = l.few;
      counted = r.counted;
      done = closed;
      waits = λ d' e'. let due = l.due d' e' in record {
        open_is = stays d' e' ∙ v.open_is;
        counted = v.counted;
        later = omega (arith, due.0);
        soon = (let s = v.soon in let c = v.counted in omega (arith, due.1, fall, s, c));
      };
    }

unless_waits : {C : Type 0} (acts : Acts C) (IsNew HasBegun : C → Type 0) → AreLawful acts IsNew HasBegun → (count d : ℕ) (c : C) → HasBegun c → acts.deadline (unless_flooded acts count c) ≡ Some d → (count ≢ 131072) × (unless_flooded acts count c ≡ c)
unless_waits acts IsNew HasBegun lawful count d c stands e = by_count (count == 131072) refl e
  where
    by_due : (o : Option ℕ) → acts.deadline c ≡ o → acts.deadline (if is_some o then acts.flooded c else c) ≡ Some d → ⊥
    by_due None q h = absurd (cc (q, h))
    by_due (Some x) q h = absurd (let f = lawful.flood_ends c stands in cc (f, h))

    by_count : (b : Bool) → (count == 131072) ≡ b → acts.deadline (if b && is_some (acts.deadline c) then acts.flooded c else c) ≡ Some d → (count ≢ 131072) × ((if b && is_some (acts.deadline c) then acts.flooded c else c) ≡ c)
    by_count true t h = absurd (by_due (acts.deadline c) refl h)
    by_count false t h = (λ same. absurd (grind (arith, nat_tests)), refl)

pub unless_lasts : {C : Type 0} (acts : Acts C) (IsNew HasBegun : C → Type 0) → AreLawful acts IsNew HasBegun → (count low high : ℕ) (c : C) → Lasts acts HasBegun low high c → HasBegun (unless_flooded acts count c) × (acts.left (unless_flooded acts count c) ≤ 8)
unless_lasts acts IsNew HasBegun lawful count low high c lasts =
    elim (count == 131072) as (λ b. HasBegun (if b && is_some (acts.deadline c) then acts.flooded c else c) × (acts.left (if b && is_some (acts.deadline c) then acts.flooded c else c) ≤ 8)) [
      | false ↦ (lasts.begun, lasts.few)
      | true ↦ elim (is_some (acts.deadline c)) as (λ b. HasBegun (if b then acts.flooded c else c) × (acts.left (if b then acts.flooded c else c) ≤ 8)) [
        | false ↦ (lasts.begun, lasts.few)
        | true ↦ (let f = lawful.floods c lasts.begun in (f.begun, f.few))
      ]
    ]

-- an arrival comes before the deadline d
pub progress_arrived : {C : Type 0} (acts : Acts C) (IsNew HasBegun : C → Type 0) → AreLawful acts IsNew HasBegun → (since round now : ℕ) (w w' : Option OpenFlow) (f : Flow C) (count d at : ℕ) (a : Arrival)
    → InProgress acts HasBegun since round now w f count → acts.deadline f.core ≡ Some d → at < d
    → (acts.deadline (unless_flooded acts (count + 1) (acts.arrived f.core at a)) ≡ None → w' ≡ None)
    → ((e : ℕ) → acts.deadline (unless_flooded acts (count + 1) (acts.arrived f.core at a)) ≡ Some e → w' ≡ Some (record { since = since; round = round; label = f.label; given = count + 1 }))
    → InProgress acts HasBegun since round (since + at) w' (with_core f (unless_flooded acts (count + 1) (acts.arrived f.core at a))) (count + 1)
progress_arrived acts IsNew HasBegun lawful since round now w w' f count d at a r e lt closed stays =
    let l = lawful.arrives f.core d at a r.begun e lt in
    let u = unless_lasts acts IsNew HasBegun lawful (count + 1) at (max d (at + 60000)) (acts.arrived f.core at a) l in
    let v = r.waits d e in
    let c : count < 131072 = v.counted in
    record {
      begun = u.0;
      few = u.1;
      counted = omega (arith, c);
      done = closed;
      waits = λ d' e'.
          let same = unless_waits acts IsNew HasBegun lawful (count + 1) d' (acts.arrived f.core at a) l.begun e' in
          let due = l.due d' (ap acts.deadline (sym same.1) ∙ e') in
          let ne = same.0 in
          let few = u.1 in
          let s = v.soon in
          record {
            open_is = stays d' e';
            counted = omega (arith, c, ne);
            later = omega (arith, due.0);
            soon = omega (arith, due.1, few, s, c);
          };
    }

sum_le : (xs : List ℕ) (m : ℕ) → ((k : ℕ) → slice_index xs k ≤ m) → sum xs ≤ length xs * m
sum_le xs m each = sum_by-le (λ x. x) m xs (λ k d lt. let e = get_or_default xs k d 0 lt in let b = each k in omega (arith, e, b))

pub calls_left_expired : {C : Type 0} (acts : Acts C) (flows : List (Flow C)) (counts : List ℕ) (i : ℕ) (f f' : Flow C) → slice_get flows i ≡ Some f → acts.left f'.core < acts.left f.core → calls_left acts (set flows i f') counts < calls_left acts flows counts
calls_left_expired acts flows counts i f f' e lt =
    let s = sum_by-set (λ g. acts.left g.core) flows i f' f (slice_get_within flows i f e) in
    let same : acts.left (get_or flows i f).core ≡ acts.left f.core = ap (λ g. acts.left g.core) (get_or_from_slice_get flows i f f e) in
    omega (arith, s, same, lt)

pub calls_left_arrived : {C : Type 0} (acts : Acts C) (flows : List (Flow C)) (counts : List ℕ) (i : ℕ) (f f' : Flow C) → slice_get flows i ≡ Some f → i < length counts → length counts ≡ 16 → ((k : ℕ) → slice_index counts k ≤ 131072) → slice_index counts i < 131072 → acts.left f'.core ≤ 8
    → calls_left acts (set flows i f') (set counts i (slice_index counts i + 1)) < calls_left acts flows counts
calls_left_arrived acts flows counts i f f' e lt long small room few =
    let s = sum_by-set (λ g. acts.left g.core) flows i f' f (slice_get_within flows i f e) in
    let same : acts.left (get_or flows i f).core ≡ acts.left f.core = ap (λ g. acts.left g.core) (get_or_from_slice_get flows i f f e) in
    let v = slice_index counts i + 1 in
    let c : sum (set counts i v) + slice_index counts i ≡ sum counts + v = sum_by-set (λ x. x) counts i v 0 lt in
    let each : (k : ℕ) → slice_index (set counts i v) k ≤ 131072 = λ k. elim (cases_eq k i) [
      | inl q ↦ (let h : slice_index (set counts i v) i ≡ v = get_or-set_same counts i v 0 lt in
          subst (λ m. slice_index (set counts i v) m ≤ 131072) (sym q) (omega (arith, h)))
      | inr q ↦ (let h : slice_index (set counts i v) k ≡ slice_index counts k = get_or-set_other counts i k v 0 q in let b = small k in omega (arith, h, b))
    ] in
    let b = sum_le (set counts i v) 131072 each in
    let n : length (set counts i v) ≡ 16 = length-set counts i v ∙ long in
    let b' : sum (set counts i v) ≤ 16 * 131072 = subst (λ m. sum (set counts i v) ≤ m * 131072) n b in
    omega (arith, s, same, c, b')

pub test_cases : (b : Bool) → (b ≡ true) ⊎ (b ≡ false)
test_cases true = inl refl
test_cases false = inr refl

-- the flow that an arrival comes to is one of these
pub came_place : (first n flow : ℕ) (ws ws' : ℕ → Option OpenFlow) → IsShut first n ws → GivesTo flow ws ws' → (first ≤ flow) × (flow < first + n)
came_place first n flow ws ws' shut gives =
    elim (test_cases (nat_lt flow first)) [
      | inl low ↦ (let lt : flow < first = grind (arith, nat_tests) in let none = shut flow (inl lt) in let was = gives.was in absurd (cc (none, was)))
      | inr high ↦ (let le : first ≤ flow = grind (arith, nat_tests) in
          elim (test_cases (nat_lt flow (first + n))) [
            | inl within ↦ (le, grind (arith, nat_tests))
            | inr beyond ↦ (let past : first + n ≤ flow = grind (arith, nat_tests) in let none = shut flow (inr past) in let was = gives.was in absurd (cc (none, was)))
          ])
    ]

-- a flow that an arrival comes to waits
pub came_waits : {C : Type 0} (acts : Acts C) (HasBegun : C → Type 0) (since round now : ℕ) (w : Option OpenFlow) (watch : OpenFlow) (f : Flow C) (count : ℕ) → InProgress acts HasBegun since round now w f count → w ≡ Some watch
    → (d : ℕ) × (acts.deadline f.core ≡ Some d) × (watch ≡ record { since = since; round = round; label = f.label; given = count })
came_waits acts HasBegun since round now w watch f count r is = by_due (acts.deadline f.core) refl
  where
    by_due : (o : Option ℕ) → acts.deadline f.core ≡ o → (d : ℕ) × (acts.deadline f.core ≡ Some d) × (watch ≡ record { since = since; round = round; label = f.label; given = count })
    by_due None e = absurd (let none = r.done e in cc (none, is))
    by_due (Some d) e = let v = r.waits d e in let h = v.open_is in (d, e, cc (is, h))

-- all that was open is closed
pub closed_all : (first number count : ℕ) (ws ws1 ws2 : ℕ → Option OpenFlow) → (0 < count → first ≡ number) → IsShut number count ws → ((m : ℕ) → ws1 m ≡ ws m)
    → ((i : ℕ) → i < count → ws2 (first + i) ≡ None) → ((m : ℕ) → (m < first) ⊎ (first + count ≤ m) → ws2 m ≡ ws1 m) → (m : ℕ) → ws2 m ≡ None
closed_all first number count ws ws1 ws2 is shut same closed others m =
    elim (test_cases (nat_lt 0 count)) [
      | inl some ↦ (let pos : 0 < count = grind (arith, nat_tests) in let e = is pos in by_place e)
      | inr none ↦ (let zero' : count ≤ 0 = grind (arith, nat_tests) in
          let out : (m < first) ⊎ (first + count ≤ m) = elim (test_cases (nat_lt m first)) [ inl t ↦ inl (grind (arith, nat_tests)) | inr t ↦ (let le : first ≤ m = grind (arith, nat_tests) in inr (omega (arith, le, zero'))) ] in
          let out' : (m < number) ⊎ (number + count ≤ m) = elim (test_cases (nat_lt m number)) [ inl t ↦ inl (grind (arith, nat_tests)) | inr t ↦ (let le : number ≤ m = grind (arith, nat_tests) in inr (omega (arith, le, zero'))) ] in
          others m out ∙ (same m ∙ shut m out'))
    ]
  where
    by_place : first ≡ number → ws2 m ≡ None
    by_place e = elim (test_cases (nat_lt m first)) [
      | inl t ↦ (let lt : m < first = grind (arith, nat_tests) in others m (inl lt) ∙ (same m ∙ shut m (inl (omega (arith, lt, e)))))
      | inr t ↦ (let le : first ≤ m = grind (arith, nat_tests) in
          elim (test_cases (nat_lt m (first + count))) [
            | inl u ↦ (let lt : m < first + count = grind (arith, nat_tests) in
                let at : first + (m - first) ≡ m = omega (arith, le) in
                subst (λ x. ws2 x ≡ None) at (closed (m - first) (omega (arith, le, lt))))
            | inr u ↦ (let past : first + count ≤ m = grind (arith, nat_tests) in others m (inr past) ∙ (same m ∙ shut m (inr (omega (arith, past, e)))))
          ])
    ]
