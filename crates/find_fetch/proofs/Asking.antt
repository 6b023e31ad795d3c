-- What a fetch of a candidate gives and makes, by what is to be done for it.
use Rattle.std.proofs.Common.{◌≡◌, ◌≤◌, ℕ, ◌+◌, Bool, true, false, if◌then◌else◌, List, [], ◌∷◌, Option, Some, None, option_map, refl, ap, sym, subst, ◌∙◌, arith}
use Rattle.std.specs.Prelude.{IfOk, OnOk, Result, Ok, Err, not, codes, option_and_then}
use Rattle.std.specs.Str.{bytes_eq}
use Rattle.std.specs.Option.{ForSome}
use Rattle.bd_dev.specs.Rows.{Row, arrivals}
use Rattle.bd_dev.specs.Sink.{Appends}
use Rattle.bd_dev.specs.Volumes.{Volume}
use Rattle.flow.specs.Phase.{time_limit}
use Rattle.url.specs.Parts.{Parts}
use Rattle.url_waterfall.specs.declared.candidate.Candidate.{Candidate}
use Rattle.url_waterfall.specs.declared.candidate.Place.{Place}
use Rattle.url_waterfall.specs.declared.candidate.Place.TheVariants as places
use Rattle.find_fetch.specs.Aim.{aim_of, aimed_by, aimed_for, asked_by, at_spot, is_unfit, label_of, spot_of, url_of}
use Rattle.find_fetch.specs.Bodies.{outcome_of}
use Rattle.find_fetch.specs.Fetching.{Asked, Fetches, HasLeft, Seen, Talk, after_flow, answer_of, clock_of, fetched_by, fetched_over, flow_by, flow_to, is_local, needs, phase_text, sought, talk_at}
use Rattle.find_fetch.specs.Local.{IsWithinLimit}
use Rattle.find_fetch.specs.declared.fetched.FetchFault.{FetchFault}
use Rattle.find_fetch.specs.declared.fetched.Fetched.{Fetched}
use Rattle.find_fetch.specs.declared.fetched.Fetched.TheVariants as fetched
use Rattle.find_fetch.specs.declared.fetched.Miss.{Miss}
use Rattle.find_fetch.specs.declared.fetched.Miss.TheVariants.{BadUrl, NoServer, Scheme}
use Rattle.find_fetch.specs.declared.request.Aim.{Aim}
use Rattle.find_fetch.specs.declared.request.Aimed.{Aimed}
use Rattle.find_fetch.specs.declared.request.Aimed.TheVariants as aimeds
use Rattle.find_fetch.specs.declared.request.Spot.{Spot}
use Rattle.find_fetch.specs.declared.request.Spot.TheVariants.{At, Called}

-- ---- which candidates are files of local media

remote_at : (place : Place) (shown : List ℕ) (aimed : Aimed) → aimed ≡ aimed_for place shown → (aimed ≡ aimeds.Local → ⊥)
    → is_local (let c : Candidate = record { place = place; shown = shown } in c) ≡ false
remote_at (places.Local volume name) shown aimed e other = absurd (other e)
remote_at places.Url shown aimed e other = refl
remote_at (places.Tftp server path) shown aimed e other = refl

pub is_remote : (c : Candidate) (aimed : Aimed) → aimed ≡ aim_of c → (aimed ≡ aimeds.Local → ⊥) → is_local c ≡ false
unfolding aim_of
is_remote c aimed e other = remote_at c.place c.shown aimed e other

not_local_if : (b : Bool) (x y : Aimed) → (x ≡ aimeds.Local → ⊥) → (y ≡ aimeds.Local → ⊥) → (if b then x else y) ≡ aimeds.Local → ⊥
not_local_if true x y no_x no_y e = no_x e
not_local_if false x y no_x no_y e = no_y e

refused_not_local : (miss : Miss) → aimeds.Refused miss ≡ aimeds.Local → ⊥
refused_not_local miss e = cc e

spot_not_local : (url : Parts) (path : List ℕ) (spot : Option Spot) → at_spot url path spot ≡ aimeds.Local → ⊥
spot_not_local url path None e = cc e
spot_not_local url path (Some spot) e = cc e

url_not_local : (url : Option Parts) (path : Parts → List ℕ) → aimed_by url path ≡ aimeds.Local → ⊥
url_not_local None path e = cc e
url_not_local (Some url) path e =
    let unfit = is_unfit url (path url) in
    let spot = option_and_then spot_of url.host in
    not_local_if (not (bytes_eq url.scheme (codes "tftp"))) (aimeds.Refused Scheme) (if unfit then aimeds.Refused BadUrl else at_spot url (path url) spot)
    (refused_not_local Scheme)
    (not_local_if unfit (aimeds.Refused BadUrl) (at_spot url (path url) spot) (refused_not_local BadUrl) (spot_not_local url (path url) spot)) e

local_at : (place : Place) (shown : List ℕ) → aimeds.Local ≡ aimed_for place shown → ((volume name : List ℕ) → place ≡ places.Local volume name → ⊥) → ⊥
local_at (places.Local volume name) shown e other = other volume name refl
local_at places.Url shown e other = url_not_local (url_of shown) (asked_by None) (sym e)
local_at (places.Tftp server path) shown e other = url_not_local (url_of shown) (asked_by (Some path)) (sym e)

-- a file of a local medium alone is read
pub only_local : (c : Candidate) (aimed : Aimed) → aimed ≡ aim_of c → aimed ≡ aimeds.Local
    → ((volume name : List ℕ) → c.place ≡ places.Local volume name → ⊥) → ⊥
unfolding aim_of
only_local c aimed e is other = local_at c.place c.shown (sym is ∙ e) other

-- ---- what is refused

-- a refusal is none of a file that ended early
abbrev IsLimited : Aimed → Type 0
IsLimited aimeds.Local = Unit {0}
IsLimited (aimeds.Refused miss) = IsWithinLimit (fetched.Miss miss)
IsLimited (aimeds.Aim aim) = Unit {0}

limited_if : (b : Bool) (x y : Aimed) → IsLimited x → IsLimited y → IsLimited (if b then x else y)
limited_if true x y left right = left
limited_if false x y left right = right

spot_limited : (url : Parts) (path : List ℕ) (spot : Option Spot) → IsLimited (at_spot url path spot)
spot_limited url path None = tt
spot_limited url path (Some spot) = tt

url_limited : (url : Option Parts) (path : Parts → List ℕ) → IsLimited (aimed_by url path)
url_limited None path = tt
url_limited (Some url) path =
    let unfit = is_unfit url (path url) in
    let spot = option_and_then spot_of url.host in
    limited_if (not (bytes_eq url.scheme (codes "tftp"))) (aimeds.Refused Scheme) (if unfit then aimeds.Refused BadUrl else at_spot url (path url) spot)
    tt (limited_if unfit (aimeds.Refused BadUrl) (at_spot url (path url) spot) tt (spot_limited url (path url) spot))

aimed_limited : (place : Place) (shown : List ℕ) → IsLimited (aimed_for place shown)
aimed_limited (places.Local volume name) shown = tt
aimed_limited places.Url shown = url_limited (url_of shown) (asked_by None)
aimed_limited (places.Tftp server path) shown = url_limited (url_of shown) (asked_by (Some path))

pub refused_within : (c : Candidate) (aimed : Aimed) (miss : Miss) → aimed ≡ aim_of c → aimed ≡ aimeds.Refused miss → IsWithinLimit (fetched.Miss miss)
unfolding aim_of
refused_within c aimed miss e is = subst IsLimited (sym e ∙ is) (aimed_limited c.place c.shown)

-- ---- what a fetch gives

for_mapped : {A : Type 0} (f : A → Fetched) (o : Option A) (found : Fetched) → ForSome o (λ x. found ≡ f x)
    → ForSome (option_map f o) (λ told. found ≡ told)
for_mapped f None found h = λ told e. absurd (cc e)
for_mapped f (Some x) found h = λ told e. (let same : f x ≡ told = cc e in h x refl ∙ same)

remote_answer : (rows : Option (List Row)) (files : Option (List Volume)) (round : ℕ) (c : Candidate) (found : Fetched) → is_local c ≡ false
    → ForSome rows (λ told. found ≡ fetched_over told [] round c) → ForSome (answer_of rows files round c) (λ told. found ≡ told)
remote_answer rows files round c found remote h =
    subst (λ (b : Bool). ForSome (if b then option_map (λ told. fetched_over [] told round c) files else option_map (λ told. fetched_over told [] round c) rows) (λ told. found ≡ told))
    (sym remote) (for_mapped (λ told. fetched_over told [] round c) rows found h)

pub refused_answer : (rows : Option (List Row)) (files : Option (List Volume)) (round : ℕ) (c : Candidate) (aimed : Aimed) (miss : Miss)
    → aimed ≡ aim_of c → aimed ≡ aimeds.Refused miss → ForSome (answer_of rows files round c) (λ told. fetched.Miss miss ≡ told)
refused_answer rows files round c aimed miss e is =
    remote_answer rows files round c (fetched.Miss miss) (is_remote c aimed e (λ x. cc (is, x)))
    (λ told _. ap (fetched_by told [] round c.place) (sym is ∙ e))

pub called_answer : (rows : Option (List Row)) (files : Option (List Volume)) (round : ℕ) (c : Candidate) (aimed : Aimed) (aim : Aim) (name : List ℕ)
    → aimed ≡ aim_of c → aimed ≡ aimeds.Aim aim → aim.spot ≡ Called name
    → ForSome (answer_of rows files round c) (λ told. fetched.Miss NoServer ≡ told)
called_answer rows files round c aimed aim name e is spot =
    remote_answer rows files round c (fetched.Miss NoServer) (is_remote c aimed e (λ x. cc (is, x)))
    (λ told _. ap (sought told round aim) (sym spot) ∙ ap (fetched_by told [] round c.place) (sym is ∙ e))

pub at_answer : (rows : Option (List Row)) (files : Option (List Volume)) (round : ℕ) (c : Candidate) (aimed : Aimed) (aim : Aim) (host : List ℕ) (result : Result Fetched FetchFault)
    → aimed ≡ aim_of c → aimed ≡ aimeds.Aim aim → aim.spot ≡ At host
    → IfOk result (λ found. ForSome rows (λ told. found ≡ (outcome_of aim (arrivals told round (label_of aim host))).found))
    → IfOk result (λ found. ForSome (answer_of rows files round c) (λ told. found ≡ told))
at_answer rows files round c aimed aim host (Err fault) e is spot h = tt
at_answer rows files round c aimed aim host (Ok found) e is spot h =
    remote_answer rows files round c found (is_remote c aimed e (λ x. cc (is, x)))
    (λ told are. h told are ∙ ap (sought told round aim) (sym spot) ∙ ap (fetched_by told [] round c.place) (sym is ∙ e))

-- ---- what a fetch makes

pub on_ok : {T E : Type 0} (r : Result T E) (P Q : Type 0) → (P → Q) → OnOk r P → OnOk r Q
on_ok (Ok x) P Q f p = f p
on_ok (Err e) P Q f p = tt

pub at_made : (s s' : Seen) (round : ℕ) (c : Candidate) (aimed : Aimed) (aim : Aim) (host : List ℕ)
    → aimed ≡ aim_of c → aimed ≡ aimeds.Aim aim → aim.spot ≡ At host → s'.rows ≡ s.rows → s'.files ≡ s.files
    → ForSome s.rows (λ rows. (s'.time ≡ s.time + (outcome_of aim (arrivals rows round (label_of aim host))).end) × (s'.opened ≡ s.opened + 1)
    × Appends s.trace s'.trace (phase_text rows round (talk_at aim host) s.time s.opened))
    → Fetches s ((let x : Asked = record { round = round; candidate = c } in x) ∷ []) s'
at_made s s' round c aimed aim host e is spot rows files h = record {
  rows = rows;
  files = files;
  passed = λ told are.
      let flow : Some (talk_at aim host) ≡ flow_by (aim_of c) = ap (flow_to aim) (sym spot) ∙ ap flow_by (sym is ∙ e) in
      let made = h told are in
      record {
        time = made.0 ∙ ap (λ (o : Option Talk). (after_flow told round (clock_of s) o).time) flow;
        opened = made.1 ∙ ap (λ (o : Option Talk). (after_flow told round (clock_of s) o).opened) flow;
        trace = subst (λ (o : Option Talk). Appends s.trace s'.trace (after_flow told round (clock_of s) o).trace) flow made.2;
      };
}

-- ---- how many are left

pub at_left : (s s' : Seen) (c : Candidate) (n : ℕ) → is_local c ≡ false → ((k : ℕ) → s'.flows k ≡ None)
    → s'.opened ≤ s.opened + 1 → s'.time ≤ s.time + time_limit → HasLeft s (n + needs c) → HasLeft s' n
at_left s s' c n remote closed most soon h =
    let more : HasLeft s (n + 1) = subst (λ (b : Bool). HasLeft s (n + (if b then 0 else 1))) remote h in
    record {
      closed = closed;
      flows = (let flows = more.flows in omega (arith, flows, most));
      time = (let time = more.time in omega (arith, time, soon));
    }

-- enough is left for another where as many more are
pub enough_for_one : (s : Seen) (c : Candidate) → is_local c ≡ false → HasLeft s 2 → HasLeft s (1 + needs c)
enough_for_one s c remote h = subst (λ (b : Bool). HasLeft s (1 + (if b then 0 else 1))) (sym remote) h
