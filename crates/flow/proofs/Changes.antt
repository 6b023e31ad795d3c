-- One flow goes on, and the others stay.
use Rattle.std.proofs.Common.{◌≡◌, ◌≢◌, ◌<◌, ◌≤◌, ◌+◌, inl, inr, ℕ, Option, Some, None, refl, arith, ap, sym, subst, ◌∙◌, List, [], ◌∷◌, ◌++◌, length, map, add-zero, append_assoc, append-nil}
use Rattle.std.specs.Prelude.{slice_get, slice_index}
use Rattle.std.specs.List.{AllByRecursion}
use Rattle.std.proofs.lemmas.Bool.{cases_eq}
use Rattle.std.proofs.lemmas.List.{map-append}
use Rattle.bd_dev.specs.Rows.{Row, arrivals}
use Rattle.bd_dev.specs.Net.{OpenFlow}
use Rattle.bd_dev.proofs.Places.{element_at}
use Rattle.flow.specs.declared.letters.Letter.{Letter}
use Rattle.flow.specs.declared.sends.Sent.{Sent}
use Rattle.flow.specs.declared.flows.Flow.{Flow}
use Rattle.flow.specs.Core.{Acts, AreLawful}
use Rattle.flow.specs.Own.{timed}
use Rattle.flow.specs.Phase.{time_limit}
use Rattle.flow.specs.Sends.{sent_at, sent_of, of_flow, Adds, IsWithin, AreUntil, Files}
use Rattle.flow.specs.Running.{with_core, Follows, InProgress, FollowsOwn, AreInProgress, FollowOwnRuns}
use Rattle.flow.proofs.OwnRun.{follows_start}

-- what changes: the flow at i, its count and its open flow; the time goes on, and some letters go out
pub record Changes {C : Type 0} (first n n' i : ℕ) (flows flows' : List (Flow C)) (counts counts' : List ℕ) (ws ws' : ℕ → Option OpenFlow) (now now' : ℕ) (more sends sends' : List Sent) (f' : Flow C) : Type 0 where
  pub grows : n ≤ n'
  pub place : i < n'
  pub within : n' ≤ length flows
  pub was : (k : ℕ) → k < n' → k ≢ i → k < n
  pub here : slice_get flows' i ≡ Some f'
  pub apart : (k : ℕ) → k ≢ i → slice_get flows' k ≡ slice_get flows k
  pub long : length flows' ≡ length flows
  pub counts_apart : (k : ℕ) → k ≢ i → slice_index counts' k ≡ slice_index counts k
  pub counts_long : length counts' ≡ length counts
  pub open_apart : (m : ℕ) → m ≢ first + i → ws' m ≡ ws m
  pub later : now ≤ now'
  pub files : Files now' (first + i) more sends sends'

within_later : (first end now now' : ℕ) → now ≤ now' → (sends : List Sent) → AllByRecursion (IsWithin first end now) sends → AllByRecursion (IsWithin first end now') sends
within_later first end now now' le [] all = tt
within_later first end now now' le (s ∷ sends) all = ((all.0.0, all.0.1, omega (arith, all.0.2)), within_later first end now now' le sends all.1)

until_later : (first end now now' : ℕ) → now ≤ now' → (sends : List Sent) → AreUntil first end now sends → AreUntil first end now' sends
until_later first end now now' le sends u = record { ordered = u.ordered; within = within_later first end now now' le sends u.within }

some_same : {X : Type 0} (x y : X) → Some x ≡ Some y → x ≡ y
some_same x y e = cc e

-- one flow sends more, and no other does
pub adds_here : {C : Type 0} (acts : Acts C) (HasBegun : C → Type 0) (since round first n n' i : ℕ) (flows flows' : List (Flow C)) (counts counts' : List ℕ) (ws ws' : ℕ → Option OpenFlow) (now now' : ℕ) (more sends sends' : List Sent) (f' : Flow C)
    → AreInProgress acts HasBegun since round first n flows counts ws now sends
    → Changes first n n' i flows flows' counts counts' ws ws' now now' more sends sends' f'
    → Adds (first + i) more sends sends'
adds_here acts HasBegun since round first n n' i flows flows' counts counts' ws ws' now now' more sends sends' f' u h =
    let p = h.place in let w = h.within in
    h.files.adds first (first + length flows) (omega arith) (omega (arith, p, w)) (until_later first (first + length flows) now now' h.later sends u.until)

pub change_one : {C : Type 0} (acts : Acts C) (HasBegun : C → Type 0) (since round first n n' i : ℕ) (flows flows' : List (Flow C)) (counts counts' : List ℕ) (ws ws' : ℕ → Option OpenFlow) (now now' : ℕ) (more sends sends' : List Sent) (f' : Flow C)
    → AreInProgress acts HasBegun since round first n flows counts ws now sends
    → Changes first n n' i flows flows' counts counts' ws ws' now now' more sends sends' f'
    → now' ≤ since + time_limit
    → ((k : ℕ) (g : Flow C) (d : ℕ) → k < n → k ≢ i → slice_get flows k ≡ Some g → acts.deadline g.core ≡ Some d → now' ≤ since + d)
    → InProgress acts HasBegun since round now' (ws' (first + i)) f' (slice_index counts' i)
    → AreInProgress acts HasBegun since round first n' flows' counts' ws' now' sends'
change_one {C} acts HasBegun since round first n n' i flows flows' counts counts' ws ws' now now' more sends sends' f' u h soon late r = record {
  few_flows = omega (arith, h.long, u.few_flows);
  counts_long = h.counts_long ∙ u.counts_long;
  counts_small = λ k. elim (cases_eq k i) [
    | inl same ↦ (let b = r.counted in subst (λ m. slice_index counts' m ≤ 131072) (sym same) b)
    | inr ne ↦ (let c : slice_index counts' k ≡ slice_index counts k = h.counts_apart k ne in let b = u.counts_small k in omega (arith, c, b))
  ];
  within = omega (arith, h.long, h.within);
  since_then = omega (arith, u.since_then, h.later);
  soon = soon;
  each = λ k g lt e. elim (cases_eq k i) [
    | inl same ↦ (let at : slice_get flows' i ≡ Some g = ap (slice_get flows') (sym same) ∙ e in
        let is : f' ≡ g = some_same f' g (sym h.here ∙ at) in
        let P : Flow C → ℕ → Type 0 = λ x m. InProgress acts HasBegun since round now' (ws' (first + m)) x (slice_index counts' m) in
        subst (λ m. P g m) (sym same) (subst (λ x. P x i) is r))
    | inr ne ↦ (let at : slice_get flows k ≡ Some g = sym (h.apart k ne) ∙ e in
        let below = h.was k lt ne in
        let a : InProgress acts HasBegun since round now (ws (first + k)) g (slice_index counts k) = u.each k g below at in
        let w : ws' (first + k) ≡ ws (first + k) = h.open_apart (first + k) (λ q. ne (omega (arith, q))) in
        let c : slice_index counts' k ≡ slice_index counts k = h.counts_apart k ne in
        let b : InProgress acts HasBegun since round now' (ws (first + k)) g (slice_index counts k) = record {
          begun = a.begun;
          few = a.few;
          counted = a.counted;
          done = a.done;
          waits = λ d q. let v = a.waits d q in record { open_is = v.open_is; counted = v.counted; later = late k g d below ne at q; soon = v.soon };
        } in
        subst (λ x. InProgress acts HasBegun since round now' x g (slice_index counts' k)) (sym w) (subst (λ x. InProgress acts HasBegun since round now' (ws (first + k)) g x) (sym c) b))
  ];
  others = λ m out. elim out [
    | inl low ↦ h.open_apart m (λ q. omega (arith, q, low)) ∙ u.others m (inl low)
    | inr high ↦ (let p = h.place in let gr = h.grows in h.open_apart m (λ q. omega (arith, q, high, p)) ∙ u.others m (inr (omega (arith, high, gr))))
  ];
  until = (let l = h.long in let p = h.place in let w = h.within in
      let e : first + length flows' ≡ first + length flows = ap (λ x. first + x) l in
      subst (λ x. AreUntil first x now' sends') (sym e) (h.files.keeps first (first + length flows) (omega arith) (omega (arith, p, w)) (until_later first (first + length flows) now now' h.later sends u.until)));
}

-- every other flow follows its own run as before
pub follow_one : {C : Type 0} (acts : Acts C) (HasBegun : C → Type 0) (since round first n n' i : ℕ) (flows0 flows flows' : List (Flow C)) (counts counts' : List ℕ) (ws ws' : ℕ → Option OpenFlow) (now now' : ℕ) (rows : Option (List Row)) (more sends sends' : List Sent) (f f' : Flow C)
    → AreInProgress acts HasBegun since round first n flows counts ws now sends
    → FollowOwnRuns acts since round first n flows0 flows counts rows now sends
    → Changes first n n' i flows flows' counts counts' ws ws' now now' more sends sends' f'
    → slice_get flows i ≡ Some f → f'.label ≡ f.label
    → (Adds (first + i) more sends sends' → (told : List Row) → rows ≡ Some told → (f0 : Flow C) → slice_get flows0 i ≡ Some f0 → (o : FollowsOwn acts since round (first + i) told f0 f' (slice_index counts' i) now' sends') × (since + o.follows.moment ≡ now'))
    → FollowOwnRuns acts since round first n' flows0 flows' counts' rows now' sends'
follow_one {C} acts HasBegun since round first n n' i flows0 flows flows' counts counts' ws ws' now now' rows more sends sends' f f' u t h here label one =
    let p = h.place in let w = h.within in
    let adds = adds_here acts HasBegun since round first n n' i flows flows' counts counts' ws ws' now now' more sends sends' f' u h in
    record {
      long = h.long ∙ t.long;
      labels = λ k g g0 e e0. elim (cases_eq k i) [
        | inl same ↦ (let at : slice_get flows' i ≡ Some g = ap (slice_get flows') (sym same) ∙ e in
            let is : f' ≡ g = some_same f' g (sym h.here ∙ at) in
            let at0 : slice_get flows0 i ≡ Some g0 = ap (slice_get flows0) (sym same) ∙ e0 in
            ap (λ x. x.label) (sym is) ∙ (label ∙ t.labels i f g0 here at0))
        | inr ne ↦ t.labels k g g0 (sym (h.apart k ne) ∙ e) e0
      ];
      each = λ told is_told k g g0 lt e e0. elim (cases_eq k i) [
        | inl same ↦ (let at : slice_get flows' i ≡ Some g = ap (slice_get flows') (sym same) ∙ e in
            let is : f' ≡ g = some_same f' g (sym h.here ∙ at) in
            let at0 : slice_get flows0 i ≡ Some g0 = ap (slice_get flows0) (sym same) ∙ e0 in
            let P : Flow C → ℕ → Type 0 = λ x m. FollowsOwn acts since round (first + m) told g0 x (slice_index counts' m) now' sends' in
            subst (λ m. P g m) (sym same) (subst (λ x. P x i) is ((one adds told is_told g0 at0).0)))
        | inr ne ↦ (let old = t.each told is_told k g g0 (h.was k lt ne) (sym (h.apart k ne) ∙ e) e0 in
            let c : slice_index counts' k ≡ slice_index counts k = h.counts_apart k ne in
            let s : of_flow (first + k) sends' ≡ of_flow (first + k) sends = adds.others (first + k) (λ q. ne (omega (arith, q))) in
            let later = h.later in let past = old.past in
            let new : FollowsOwn acts since round (first + k) told g0 g (slice_index counts k) now' sends' = record { out = old.out; follows = old.follows; past = omega (arith, past, later); sent = s ∙ old.sent } in
            subst (λ x. FollowsOwn acts since round (first + k) told g0 g x now' sends') (sym c) new)
      ];
      reached = λ told is_told.
          let n0 = t.long in
          let el0 = element_at flows0 i (omega (arith, n0, p, w)) in
          let o = one adds told is_told el0.0 el0.1 in
          inr (i, record { flow = f'; flow0 = el0.0; here = h.here; here0 = el0.1; out = o.0.out; follows = o.0.follows; now_is = o.1 });
    }

-- what goes out at one moment, as the flow itself counts time
sent_timed : (since round number : ℕ) (label : List ℕ) (at : ℕ) (letters : List Letter) → map (sent_of since round number label) (timed at letters) ≡ map (sent_at (since + at) round number label) letters
sent_timed since round number label at [] = refl
sent_timed since round number label at (l ∷ letters) = ap (λ xs. sent_at (since + at) round number label l ∷ xs) (sent_timed since round number label at letters)

-- one step more of the own run, and what it sends
pub own_more : {C : Type 0} (acts : Acts C) (since round number : ℕ) (told : List Row) (f0 f : Flow C) (core : C) (count count' at now : ℕ) (letters : List Letter) (sends sends' : List Sent)
    → (old : FollowsOwn acts since round number told f0 f count now sends)
    → Adds number (map (sent_at (since + at) round number f.label) letters) sends sends'
    → (follows : Follows acts f0.core (arrivals told round f.label) core count' (old.out ++ timed at letters))
    → follows.moment ≡ at
    → (o : FollowsOwn acts since round number told f0 (with_core f core) count' (since + at) sends') × (since + o.follows.moment ≡ since + at)
own_more acts since round number told f0 f core count count' at now letters sends sends' old adds follows moment = (
  record {
    out = old.out ++ timed at letters;
    follows = follows;
    past = omega (arith, moment);
    sent = adds.this ∙ (ap (λ xs. xs ++ map (sent_at (since + at) round number f.label) letters) old.sent
        ∙ (ap (λ xs. map (sent_of since round number f.label) (timed 0 (acts.begun_letters f0.core) ++ old.out) ++ xs) (sym (sent_timed since round number f.label at letters))
        ∙ (sym (map-append (sent_of since round number f.label) (timed 0 (acts.begun_letters f0.core) ++ old.out) (timed at letters))
        ∙ ap (map (sent_of since round number f.label)) (append_assoc (timed 0 (acts.begun_letters f0.core)) old.out (timed at letters)))));
  },
  ap (λ m. since + m) moment,
)

-- a core that begins
pub own_begins : {C : Type 0} (acts : Acts C) (since round number : ℕ) (told : List Row) (f0 : Flow C) (sends sends' : List Sent)
    → of_flow number sends ≡ []
    → Adds number (map (sent_at since round number f0.label) (acts.begun_letters f0.core)) sends sends'
    → (o : FollowsOwn acts since round number told f0 (with_core f0 (acts.begun f0.core)) 0 since sends') × (since + o.follows.moment ≡ since)
own_begins acts since round number told f0 sends sends' none adds =
    let start = follows_start acts f0.core (arrivals told round f0.label) in
    let moment = start.1 in
    let letters = acts.begun_letters f0.core in
    let at_start : map (sent_at (since + 0) round number f0.label) letters ≡ map (sent_at since round number f0.label) letters = ap (λ t. map (sent_at t round number f0.label) letters) (add-zero since) in (
      record {
        out = [];
        follows = start.0;
        past = omega (arith, moment);
        sent = adds.this ∙ (ap (λ xs. xs ++ map (sent_at since round number f0.label) letters) none
            ∙ (sym at_start ∙ (sym (sent_timed since round number f0.label 0 letters) ∙ ap (map (sent_of since round number f0.label)) (sym (append-nil (timed 0 letters))))));
      },
      omega (arith, moment),
    )

-- a flow that has just begun
pub progress_begun : {C : Type 0} (acts : Acts C) (IsNew HasBegun : C → Type 0) → AreLawful acts IsNew HasBegun → (since round : ℕ) (w : Option OpenFlow) (f : Flow C) → IsNew f.core
    → (acts.deadline (acts.begun f.core) ≡ None → w ≡ None) → ((d : ℕ) → acts.deadline (acts.begun f.core) ≡ Some d → w ≡ Some (record { since = since; round = round; label = f.label; given = 0 }))
    → InProgress acts HasBegun since round since w (with_core f (acts.begun f.core)) 0
progress_begun acts IsNew HasBegun lawful since round w f new done waits =
    let l = lawful.begins f.core new in
    record {
      begun = l.begun;
      few = l.few;
      counted = omega arith;
      done = done;
      waits = λ d e. let due = l.due d e in let few = l.few in record {
        open_is = waits d e;
        counted = omega arith;
        later = omega arith;
        soon = omega (arith, due.1, few);
      };
    }
