-- The flows are opened one after the other, all at one time.
use Rattle.std.proofs.Common.{◌≡◌, ◌≤◌, ◌+◌, inl, ℕ, zero, suc, Option, Some, None, refl, arith, ap, sym, subst, ◌∙◌, List, [], length, map, set, replicate}
use Rattle.std.specs.Prelude.{slice_get, slice_index}
use Rattle.std.proofs.lemmas.List.{length-set}
use Rattle.std.proofs.lemmas.Option.{slice_get_within}
use Rattle.bd_dev.specs.Rows.{Row}
use Rattle.bd_dev.specs.Net.{OpenFlow, Outgoing}
use Rattle.bd_dev.proofs.Places.{slice_get-set_same, slice_get-set_other}
use Rattle.flow.specs.declared.letters.Letter.{Letter}
use Rattle.flow.specs.declared.sends.Sent.{Sent}
use Rattle.flow.specs.declared.flows.Flow.{Flow}
use Rattle.flow.specs.Core.{Acts, AreLawful}
use Rattle.flow.specs.Sends.{sent_at}
use Rattle.flow.specs.Running.{with_core, BeginsAt, FollowsOwn, InProgress, IsOpening, no_counts}
use Rattle.flow.proofs.Changes.{Changes, adds_here, change_one, follow_one, own_begins, progress_begun}
use Rattle.flow.proofs.Sending.{posted_more, posted_none}

no_count : (n k : ℕ) → slice_index (replicate n 0) k ≡ 0
no_count zero k = refl
no_count (suc n) zero = refl
no_count (suc n) (suc k) = no_count n k

some_same : {X : Type 0} (x y : X) → Some x ≡ Some y → x ≡ y
some_same x y e = cc e

begins_changes : {C : Type 0} (first i since round : ℕ) (letters : List Letter) (due : Option ℕ) (core : C) (flows flows' : List (Flow C)) (ws ws' : ℕ → Option OpenFlow) (sends sends' : List Sent) (net net' : Option (List Outgoing)) (f : Flow C)
    → slice_get flows i ≡ Some f → flows' ≡ set flows i (with_core f core)
    → BeginsAt since round (first + i) f.label letters due ws ws' sends sends' net net'
    → Changes first i (i + 1) i flows flows' no_counts no_counts ws ws' since since (map (sent_at since round (first + i) f.label) letters) sends sends' (with_core f core)
begins_changes first i since round letters due core flows flows' ws ws' sends sends' net net' f here is b =
    let lt = slice_get_within flows i f here in
    record {
      grows = omega arith;
      place = omega arith;
      within = omega (arith, lt);
      was = λ k l ne. omega (arith, l, ne);
      here = ap (λ xs. slice_get xs i) is ∙ slice_get-set_same flows i (with_core f core) lt;
      apart = λ k ne. ap (λ xs. slice_get xs k) is ∙ slice_get-set_other flows i k (with_core f core) ne;
      long = ap length is ∙ length-set flows i (with_core f core);
      counts_apart = λ k ne. refl;
      counts_long = refl;
      open_apart = b.others;
      later = omega arith;
      files = b.files;
    }

-- one flow more is opened
pub opening_one : {C : Type 0} (acts : Acts C) (IsNew HasBegun : C → Type 0) → AreLawful acts IsNew HasBegun → (since round first i : ℕ) (flows0 flows flows' : List (Flow C)) (f : Flow C) (ws ws' : ℕ → Option OpenFlow) (rows : Option (List Row)) (sends sends' : List Sent) (net net1 net' : Option (List Outgoing))
    → ((k : ℕ) (g : Flow C) → slice_get flows0 k ≡ Some g → IsNew g.core)
    → slice_get flows i ≡ Some f → flows' ≡ set flows i (with_core f (acts.begun f.core))
    → IsOpening acts HasBegun since round first i flows0 flows ws rows sends net net1
    → BeginsAt since round (first + i) f.label (acts.begun_letters f.core) (acts.deadline (acts.begun f.core)) ws ws' sends sends' net1 net'
    → IsOpening acts HasBegun since round first (i + 1) flows0 flows' ws' rows sends' net net'
opening_one {C} acts IsNew HasBegun lawful since round first i flows0 flows flows' f ws ws' rows sends sends' net net1 net' new here is o b =
    let core = acts.begun f.core in
    let letters = acts.begun_letters f.core in
    let here0 = o.fresh i f (omega arith) here in
    let change = begins_changes first i since round letters (acts.deadline core) core flows flows' ws ws' sends sends' net1 net' f here is b in
    let adds = adds_here acts HasBegun since round first i (i + 1) i flows flows' no_counts no_counts ws ws' since since (map (sent_at since round (first + i) f.label) letters) sends sends' (with_core f core) o.progress change in
    let r = progress_begun acts IsNew HasBegun lawful since round (ws' (first + i)) f (new i f here0) b.done b.waits in
    let zero_count : slice_index no_counts i ≡ 0 = no_count 16 i in
    record {
      progress = change_one acts HasBegun since round first i (i + 1) i flows flows' no_counts no_counts ws ws' since since _ sends sends' (with_core f core) o.progress change (omega arith)
          (λ k g d l ne at q. ((o.progress.each k g l at).waits d q).later)
          (subst (λ m. InProgress acts HasBegun since round since (ws' (first + i)) (with_core f core) m) (sym zero_count) r);
      follow = follow_one acts HasBegun since round first i (i + 1) i flows0 flows flows' no_counts no_counts ws ws' since since rows _ sends sends' f (with_core f core) o.progress o.follow change here refl
          (λ a told is_told f0 at0.
          let same : f ≡ f0 = some_same f f0 (sym here0 ∙ at0) in
          let P : Flow C → ℕ → Type 0 = λ x m. (own : FollowsOwn acts since round (first + i) told x (with_core f core) m since sends') × (since + own.follows.moment ≡ since) in
          subst (λ x. P x (slice_index no_counts i)) same (subst (P f) (sym zero_count) (own_begins acts since round (first + i) told f sends sends' (o.unsent i (omega arith)) a)));
      posted = posted_more since round (first + i) f.label letters sends sends' net net1 net' o.posted adds b.posts;
      fresh = λ k g le at. o.fresh k g (omega (arith, le)) (sym (change.apart k (λ q. omega (arith, q, le))) ∙ at);
      unsent = λ k le. adds.others (first + k) (λ q. omega (arith, q, le)) ∙ o.unsent k (omega (arith, le));
    }

-- none has begun yet
pub opening_none : {C : Type 0} (acts : Acts C) (HasBegun : C → Type 0) (since round first : ℕ) (flows : List (Flow C)) (ws : ℕ → Option OpenFlow) (rows : Option (List Row)) (net : Option (List Outgoing)) → length flows ≤ 16 → ((m : ℕ) → ws m ≡ None)
    → IsOpening acts HasBegun since round first 0 flows flows ws rows [] net net
opening_none acts HasBegun since round first flows ws rows net few shut = record {
  progress = record {
    few_flows = few;
    counts_long = refl;
    counts_small = λ k. (let e = no_count 16 k in omega (arith, e));
    within = omega arith;
    since_then = omega arith;
    soon = omega arith;
    each = λ i f lt. absurd (omega (arith, lt));
    others = λ m out. shut m;
    until = record { ordered = tt; within = tt };
  };
  follow = record {
    long = refl;
    labels = λ i f f0 e e0. (let same : f ≡ f0 = cc (e, e0) in ap (λ x. x.label) same);
    each = λ told is i f f0 lt. absurd (omega (arith, lt));
    reached = λ told is. inl refl;
  };
  posted = posted_none net;
  fresh = λ k f le e. e;
  unsent = λ k le. refl;
}
