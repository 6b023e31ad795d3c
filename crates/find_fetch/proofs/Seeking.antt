-- A phase of one flow: its core's end, the text of what is sent, and the time.
use Rattle.std.proofs.Common.{◌≡◌, ◌≤◌, ◌<◌, ℕ, ◌+◌, max, Bool, if◌then◌else◌, List, [], ◌∷◌, ◌++◌, length, get_or, Option, Some, None, option_map, map, refl, ap, sym, subst, ◌∙◌, arith, eq-eqb}
use Rattle.std.specs.Prelude.{slice_get, OnErr, Result, Ok, Err}
use Rattle.std.specs.List.{AllByRecursion}
use Rattle.std.proofs.lemmas.List.{append-nil}
use Rattle.bd_dev.specs.Net.{Outgoing}
use Rattle.bd_dev.specs.Rows.{Row, arrivals}
use Rattle.bd_dev.specs.Sink.{AppendsFront}
use Rattle.flow.specs.Phase.{IsPhase, RunsAlone, flow_end, flow_sends}
use Rattle.flow.specs.Own.{TimedLetter}
use Rattle.flow.specs.Sends.{IsMergeOf, of_flow, sent_of}
use Rattle.flow.specs.declared.flows.Flow.{Flow}
use Rattle.flow.specs.declared.sends.Sent.{Sent}
use Rattle.trace_text.specs.TraceText.{trace_text}
use Rattle.find_fetch.specs.Aim.{label_of}
use Rattle.find_fetch.specs.Bodies.{HasBodyBegun, body_acts, body_result, client_of, outcome_of}
use Rattle.find_fetch.specs.Fetching.{phase_text, talk_at}
use Rattle.find_fetch.proofs.Clients.{aim_comes_to}
use Rattle.find_fetch.specs.declared.body_core.BodyCore.{BodyCore}
use Rattle.find_fetch.specs.declared.fetched.Fetched.{Fetched}
use Rattle.find_fetch.specs.declared.request.Aim.{Aim}

-- what holds at an error where it holds anyway
pub on_err : {T E : Type 0} (r : Result T E) (P : Type 0) → P → OnErr r P
on_err (Ok x) P p = tt
on_err (Err e) P p = p

-- nothing is a front
none_more : (old : Option (List ℕ)) → old ≡ option_map (λ taken. taken ++ []) old
none_more None = refl
none_more (Some text) = ap Some (sym (append-nil text))

pub front_none : (old : Option (List ℕ)) (bytes : List ℕ) → AppendsFront old old bytes
front_none old bytes = record { count = 0; within = omega arith; front = none_more old }

-- the one element
pub one_at : {A : Type 0} (xs : List A) (d : A) → length xs ≡ 1 → slice_get xs 0 ≡ Some (get_or xs 0 d)
one_at [] d one = absurd (omega (arith, one))
one_at (x ∷ xs) d one = refl

-- where all is from one flow
only_flow : (first : ℕ) (sends : List Sent) → AllByRecursion (λ s. (first ≤ s.flow) × (s.flow < first + 1)) sends → of_flow first sends ≡ sends
only_flow first [] all = refl
only_flow first (s ∷ sends) all =
    let low = all.0.0 in
    let high = all.0.1 in
    let same : s.flow ≡ first = omega (arith, low, high) in
    ap (λ (b : Bool). if b then s ∷ of_flow first sends else of_flow first sends) (eq-eqb s.flow first same)
    ∙ ap (λ (rest : List Sent). s ∷ rest) (only_flow first sends all.1)

merge_one : (first : ℕ) (part : ℕ → List Sent) (sends : List Sent) → IsMergeOf first 1 part sends → sends ≡ part 0
merge_one first part sends merge =
    let zero_more : first + 0 ≡ first = omega arith in
    sym (only_flow first sends merge.no_others)
    ∙ ap (λ (n : ℕ). of_flow n sends) (sym zero_more)
    ∙ merge.each 0 (omega arith)

-- the flow of a request to a host
abbrev flow_at : Aim → List ℕ → Flow BodyCore
flow_at aim host = record { label = label_of aim host; core = client_of aim }

-- what a request to a host comes to
pub record Sought (aim : Aim) (host : List ℕ) (since round first : ℕ) (rows : List Row) (core : BodyCore) (after : List Sent) (end : ℕ) : Type 0 where
  pub found_is : body_result core ≡ Some (outcome_of aim (arrivals rows round (label_of aim host))).found
  pub text_is : trace_text after ≡ phase_text rows round (talk_at aim host) since first
  pub end_is : end ≡ since + (outcome_of aim (arrivals rows round (label_of aim host))).end

sought_alone : (aim : Aim) (host : List ℕ) (since round first : ℕ) (rows : List Row) (old new : List (Flow BodyCore)) (sent : List Sent) (end : ℕ) (d : Flow BodyCore)
    → old ≡ flow_at aim host ∷ [] → length new ≡ 1 → RunsAlone body_acts since round first rows old new sent end
    → Sought aim host since round first rows (get_or new 0 d).core sent end
sought_alone aim host since round first rows old new sent end d is one alone =
    let f = flow_at aim host in
    let runs : RunsAlone body_acts since round first rows (f ∷ []) new sent end =
    subst (λ (flows : List (Flow BodyCore)). RunsAlone body_acts since round first rows flows new sent end) is alone in
    let comes = aim_comes_to aim (arrivals rows round (label_of aim host)) in
    let zero_more : first + 0 ≡ first = omega arith in
    let last = runs.last in
    let sent_is : sent ≡ flow_sends body_acts since round first rows (Some f) =
    merge_one first (λ i. flow_sends body_acts since round (first + i) rows (slice_get (f ∷ []) i)) sent runs.sent
    ∙ ap (λ (n : ℕ). flow_sends body_acts since round n rows (Some f)) zero_more in
    record {
      found_is = ap body_result (runs.ends 0 (get_or new 0 d) f (one_at new d one) refl) ∙ comes.found;
      text_is = ap trace_text (sent_is ∙ ap (λ (letters : List TimedLetter). map (sent_of since round first (label_of aim host)) letters) comes.sends);
      end_is = last ∙ ap (λ (m : ℕ). since + m) (max_none (flow_end body_acts round rows f).moment ∙ comes.ends);
    }
  where
    max_none : (m : ℕ) → max m 0 ≡ m
    max_none m = omega arith

pub sought_one : (aim : Aim) (host : List ℕ) (since round first : ℕ) (rows : Option (List Row)) (label : List ℕ) (core : BodyCore) (old new : List (Flow BodyCore)) (before after : List Sent) (net net' : Option (List Outgoing)) (end : ℕ) (d : Flow BodyCore)
    → IsPhase body_acts HasBodyBegun since round first rows old new before after net net' end
    → old ≡ (let f : Flow BodyCore = record { label = label; core = core } in f) ∷ [] → label ≡ label_of aim host → core ≡ client_of aim
    → before ≡ [] → length new ≡ 1 → (told : List Row) → rows ≡ Some told
    → Sought aim host since round first told (get_or new 0 d).core after end
sought_one aim host since round first rows label core old new before after net net' end d phase is label_is core_is nothing one told are =
    let whole : old ≡ flow_at aim host ∷ [] =
    is ∙ ap (λ (l : List ℕ). (let f : Flow BodyCore = record { label = l; core = core } in f) ∷ []) label_is
    ∙ ap (λ (k : BodyCore). (let f : Flow BodyCore = record { label = label_of aim host; core = k } in f) ∷ []) core_is in
    let all : after ≡ phase.sent = phase.filed ∙ ap (λ (b : List Sent). b ++ phase.sent) nothing in
    subst (λ (sends : List Sent). Sought aim host since round first told (get_or new 0 d).core sends end) (sym all)
    (sought_alone aim host since round first told old new phase.sent end d whole one (phase.alone told are))

-- what the client that is done has found
pub found_one : (core : BodyCore) (told found : Fetched) → body_result core ≡ Some told → body_result core ≡ Some found → found ≡ told
found_one core told found is result =
    let all : Some found ≡ Some told = sym result ∙ is in
    cc all
