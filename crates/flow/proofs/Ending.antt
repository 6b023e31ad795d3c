-- All cores are done: each is at the end of its own run.
use Rattle.std.proofs.Common.{◌≡◌, ◌<◌, ◌≤◌, ◌+◌, ◌-◌, inl, inr, ℕ, zero, suc, max, Option, Some, None, refl, arith, ap, sym, subst, ◌∙◌, List, [], ◌∷◌, ◌++◌, length, map}
use Rattle.std.specs.Prelude.{slice_get, slice_index}
use Rattle.std.specs.List.{AllByRecursion}
use Rattle.std.proofs.lemmas.Option.{slice_get_within}
use Rattle.bd_dev.specs.Rows.{Row, arrivals}
use Rattle.bd_dev.specs.Net.{OpenFlow, Outgoing}
use Rattle.bd_dev.proofs.Places.{element_at}
use Rattle.flow.specs.declared.sends.Sent.{Sent}
use Rattle.flow.specs.declared.flows.Flow.{Flow}
use Rattle.flow.specs.Core.{Acts, AreLawful}
use Rattle.flow.specs.Own.{TimedLetter, own_end, own_sends}
use Rattle.flow.specs.Phase.{IsPhase, RunsAlone, flow_end, flow_sends, longest}
use Rattle.flow.specs.Sends.{sent_of, of_flow, IsWithin}
use Rattle.flow.specs.Running.{AreInProgress, FollowOwnRuns, Follows, HasRun, IsOpening}
use Rattle.flow.proofs.Calls.{closed_all}
use Rattle.flow.proofs.OwnRun.{follows_to_end}
use Rattle.flow.proofs.Sending.{posted_none}

longest_most : {C : Type 0} (acts : Acts C) (round : ℕ) (rows : List Row) (flows : List (Flow C)) (m : ℕ) → ((i : ℕ) (f : Flow C) → slice_get flows i ≡ Some f → (flow_end acts round rows f).moment ≤ m) → longest acts round rows flows ≤ m
longest_most acts round rows [] m each = omega arith
longest_most acts round rows (f ∷ flows) m each =
    let here = each 0 f refl in
    let rest = longest_most acts round rows flows m (λ i g e. each (suc i) g e) in
    omega (arith, here, rest)

longest_least : {C : Type 0} (acts : Acts C) (round : ℕ) (rows : List Row) (flows : List (Flow C)) (i : ℕ) (f : Flow C) → slice_get flows i ≡ Some f → (flow_end acts round rows f).moment ≤ longest acts round rows flows
longest_least acts round rows [] i f e = absurd (cc e)
longest_least {C} acts round rows (g ∷ flows) zero f e =
    let same : g ≡ f = cc e in
    subst (λ (x : Flow C). (flow_end acts round rows x).moment ≤ max ((flow_end acts round rows g).moment) (longest acts round rows flows)) same (omega arith)
longest_least acts round rows (g ∷ flows) (suc i) f e = let rest = longest_least acts round rows flows i f e in omega (arith, rest)

within_flows : (first end now : ℕ) (sends : List Sent) → AllByRecursion (IsWithin first end now) sends → AllByRecursion (λ s. (first ≤ s.flow) × (s.flow < end)) sends
within_flows first end now [] all = tt
within_flows first end now (s ∷ sends) all = ((all.0.0, all.0.1), within_flows first end now sends all.1)

-- a core that is done is at its own run's end, with what it sent, and at that time
at_end : {C : Type 0} (acts : Acts C) (IsNew HasBegun : C → Type 0) → AreLawful acts IsNew HasBegun → (round : ℕ) (rows : List Row) (f0 f : Flow C) (count : ℕ) (out : List TimedLetter) → IsNew f0.core → f.label ≡ f0.label → (h : Follows acts f0.core (arrivals rows round f.label) f.core count out) → acts.deadline f.core ≡ None
    → ((flow_end acts round rows f0).core ≡ f.core) × ((flow_end acts round rows f0).moment ≡ h.moment)
at_end acts IsNew HasBegun lawful round rows f0 f count out new label h done =
    let end = follows_to_end acts IsNew HasBegun lawful f0.core f.core (arrivals rows round f.label) count out new h done in (
      subst (λ l. (own_end acts f0.core (arrivals rows round l)).core ≡ f.core) label end.0,
      subst (λ l. (own_end acts f0.core (arrivals rows round l)).moment ≡ h.moment) label end.2,
    )

pub runs_alone : {C : Type 0} (acts : Acts C) (IsNew HasBegun : C → Type 0) → AreLawful acts IsNew HasBegun → (since round first : ℕ) (flows0 flows : List (Flow C)) (counts : List ℕ) (ws : ℕ → Option OpenFlow) (now : ℕ) (rows : Option (List Row)) (told : List Row) (sends : List Sent)
    → ((k : ℕ) (f : Flow C) → slice_get flows0 k ≡ Some f → IsNew f.core)
    → AreInProgress acts HasBegun since round first (length flows) flows counts ws now sends
    → FollowOwnRuns acts since round first (length flows) flows0 flows counts rows now sends
    → ((k : ℕ) (f : Flow C) → k < length flows → slice_get flows k ≡ Some f → acts.deadline f.core ≡ None)
    → rows ≡ Some told
    → RunsAlone acts since round first told flows0 flows sends now
runs_alone {C} acts IsNew HasBegun lawful since round first flows0 flows counts ws now rows told sends new u t done is = record {
  ends = λ i f f0 e e0.
      let lt = slice_get_within flows i f e in
      let h = t.each told is i f f0 lt e e0 in
      sym ((at_end acts IsNew HasBegun lawful round told f0 f (slice_index counts i) h.out (new i f0 e0) (t.labels i f f0 e e0) h.follows (done i f lt e)).0);
  sent = record {
    ordered = u.until.ordered;
    each = λ i lt.
        let el0 = element_at flows0 i lt in
        let n = t.long in
        let el = element_at flows i (omega (arith, n, lt)) in
        let f = el.0 in let f0 = el0.0 in
        let within = slice_get_within flows i f el.1 in
        let label = t.labels i f f0 el.1 el0.1 in
        let h = t.each told is i f f0 within el.1 el0.1 in
        let end = follows_to_end acts IsNew HasBegun lawful f0.core f.core (arrivals told round f.label) (slice_index counts i) h.out (new i f0 el0.1) h.follows (done i f within el.1) in
        let here : of_flow (first + i) sends ≡ map (sent_of since round (first + i) f.label) (own_sends acts f0.core (arrivals told round f.label)) = h.sent ∙ ap (map (sent_of since round (first + i) f.label)) (sym end.1) in
        let there : of_flow (first + i) sends ≡ map (sent_of since round (first + i) f0.label) (own_sends acts f0.core (arrivals told round f0.label)) = subst (λ l. of_flow (first + i) sends ≡ map (sent_of since round (first + i) l) (own_sends acts f0.core (arrivals told round l))) label here in
        there ∙ ap (flow_sends acts since round (first + i) told) (sym el0.1);
    no_others = (let n = t.long in let all = within_flows first (first + length flows) now sends u.until.within in
        subst (λ m. AllByRecursion (λ s. (first ≤ s.flow) × (s.flow < first + m)) sends) n all);
  };
  last =
      let begun = u.since_then in
      let most = longest_most acts round told flows0 (now - since) (λ i f0 e0.
      let lt0 = slice_get_within flows0 i f0 e0 in
      let n = t.long in
      let el = element_at flows i (omega (arith, n, lt0)) in
      let lt = slice_get_within flows i el.0 el.1 in
      let h = t.each told is i el.0 f0 lt el.1 e0 in
      let end = (at_end acts IsNew HasBegun lawful round told f0 el.0 (slice_index counts i) h.out (new i f0 e0) (t.labels i el.0 f0 el.1 e0) h.follows (done i el.0 lt el.1)).1 in
      let past = h.past in
      omega (arith, end, past)) in
      elim (t.reached told is) [
        | inl at_once ↦ omega (arith, at_once, most)
        | inr by ↦ (let r = by.1 in
            let lt = slice_get_within flows by.0 r.flow r.here in
            let end = (at_end acts IsNew HasBegun lawful round told r.flow0 r.flow (slice_index counts by.0) r.out (new by.0 r.flow0 r.here0) (t.labels by.0 r.flow r.flow0 r.here r.here0) r.follows (done by.0 r.flow lt r.here)).1 in
            let least = longest_least acts round told flows0 by.0 r.flow0 r.here0 in
            let now_is = r.now_is in
            omega (arith, most, end, least, now_is, begun))
      ];
}

-- The opening and the run after it make a phase.
pub phase : {C : Type 0} (acts : Acts C) (IsNew HasBegun : C → Type 0) → AreLawful acts IsNew HasBegun → (since round first : ℕ) (flows0 flows1 flows2 : List (Flow C)) (ws1 ws2 : ℕ → Option OpenFlow) (now : ℕ) (rows : Option (List Row)) (before after sends1 sends2 : List Sent) (net net1 net2 : Option (List Outgoing))
    → ((k : ℕ) (f : Flow C) → slice_get flows0 k ≡ Some f → IsNew f.core)
    → IsOpening acts HasBegun since round first (length flows1) flows0 flows1 ws1 rows sends1 net net1
    → HasRun acts HasBegun since round first flows1 flows2 ws2 now rows sends1 sends2 net1 net2
    → after ≡ before ++ sends2
    → IsPhase acts HasBegun since round first rows flows0 flows2 before after net net2 now
phase acts IsNew HasBegun lawful since round first flows0 flows1 flows2 ws1 ws2 now rows before after sends1 sends2 net net1 net2 new o h filed =
    let t = h.follow flows0 o.follow in
    record {
      labels = t.labels;
      begun = λ i f e. (h.progress.each i f (slice_get_within flows2 i f e) e).begun;
      done = λ i f e. h.done i f (slice_get_within flows2 i f e) e;
      sent = sends2;
      filed = filed;
      posted = h.posted net o.posted;
      alone = λ told is. runs_alone acts IsNew HasBegun lawful since round first flows0 flows2 h.counts ws2 now rows told sends2 new h.progress t h.done is;
    }

-- with no flow nothing happens
pub phase_none : {C : Type 0} (acts : Acts C) (HasBegun : C → Type 0) (since round first : ℕ) (rows : Option (List Row)) (flows : List (Flow C)) (sends : List Sent) (net : Option (List Outgoing)) → length flows ≡ 0 → sends ≡ sends ++ [] → IsPhase acts HasBegun since round first rows flows flows sends sends net net since
phase_none {C} acts HasBegun since round first rows flows sends net none same = record {
  labels = λ i f f0 e e0. absurd (let lt = slice_get_within flows i f e in omega (arith, lt, none));
  begun = λ i f e. absurd (let lt = slice_get_within flows i f e in omega (arith, lt, none));
  done = λ i f e. absurd (let lt = slice_get_within flows i f e in omega (arith, lt, none));
  sent = [];
  filed = same;
  posted = posted_none net;
  alone = λ told is. record {
    ends = λ i f f0 e e0. absurd (let lt = slice_get_within flows i f e in omega (arith, lt, none));
    sent = record { ordered = tt; each = λ i lt. absurd (omega (arith, lt, none)); no_others = tt };
    last = (let nothing = longest_most acts round told flows 0 (λ i f e. absurd (let lt = slice_get_within flows i f e in omega (arith, lt, none))) in omega (arith, nothing));
  };
}

-- where all are done, no flow is open
pub all_closed : {C : Type 0} (acts : Acts C) (HasBegun : C → Type 0) (since round first : ℕ) (flows : List (Flow C)) (counts : List ℕ) (ws : ℕ → Option OpenFlow) (now : ℕ) (sends : List Sent)
    → AreInProgress acts HasBegun since round first (length flows) flows counts ws now sends
    → ((k : ℕ) (f : Flow C) → k < length flows → slice_get flows k ≡ Some f → acts.deadline f.core ≡ None)
    → (m : ℕ) → ws m ≡ None
all_closed acts HasBegun since round first flows counts ws now sends u done m =
    closed_all first first (length flows) ws ws ws (λ some. refl) u.others (λ k. refl)
    (λ i lt. let el = element_at flows i lt in (u.each i el.0 lt el.1).done (done i el.0 lt el.1)) (λ k out. refl) m
