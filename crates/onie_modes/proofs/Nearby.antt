-- Files of local media: their fetches take nothing of the network, and their text.
use Rattle.std.proofs.Common.{◌≡◌, ℕ, zero, suc, ◌*◌, ◌^◌, Bool, true, false, cond, not, List, [], ◌∷◌, ◌++◌, take, Option, Some, None, refl, sym, ap, subst, ◌∙◌, arith}
use Rattle.std.specs.Prelude.{map, filter}
use Rattle.std.specs.List.{flat_map}
use Rattle.bd_dev.proofs.Appending.{Appends-nothing}
use Rattle.bd_dev.specs.Rows.{Row}
use Rattle.bd_dev.specs.Sink.{Appends, AppendsFront}
use Rattle.bd_dev.specs.Volumes.{Volume, volume_names}
use Rattle.bd_mode.specs.declared.mode.Mode.{Mode}
use Rattle.bd_mode.specs.declared.mode.Mode.TheVariants as modes
use Rattle.find_fetch.specs.Aim.{aim_of, aimed_for}
use Rattle.find_fetch.specs.Fetching.{Asked, BreaksOff, Clock, Fetches, HasLeft, Seen, after_fetches, after_flow, answer_of, clock_of, fetched_by, fetched_over, flow_by, is_local, needs}
use Rattle.find_fetch.specs.declared.request.Aimed.{Aimed}
use Rattle.find_fetch.specs.declared.request.Aimed.TheVariants as aimeds
use Rattle.tlvinfo.specs.Identity.{Board}
use Rattle.url_waterfall.specs.Candidates.{local_file, local_files, is_local as is_local_volume}
use Rattle.url_waterfall.specs.Firsts.{firsts, shows}
use Rattle.url_waterfall.specs.Names.{installer_names}
use Rattle.url_waterfall.specs.declared.candidate.Candidate.{Candidate}
use Rattle.url_waterfall.specs.declared.candidate.Place.{Place}
use Rattle.url_waterfall.specs.declared.candidate.Place.TheVariants as places
use Rattle.onie_modes.specs.Asking.{asked_all, lines_by, needs_all}
use Rattle.onie_modes.specs.Discover.{discover_text, lines_of}
use Rattle.onie_modes.proofs.Asked.{asked_take, needs_cons}

-- ---- the list

-- each is a file of a local medium
abbrev pub AreLocal : List Candidate → Type 0
AreLocal [] = Unit {0}
AreLocal (c ∷ cs) = (is_local c ≡ true) × AreLocal cs

local_append : (xs ys : List Candidate) → AreLocal xs → AreLocal ys → AreLocal (xs ++ ys)
local_append [] ys a b = b
local_append (x ∷ xs) ys a b = (a.0, local_append xs ys a.1 b)

local_in_volume : (volume : List ℕ) (names : List (List ℕ)) → AreLocal (map (local_file volume) names)
local_in_volume volume [] = tt
local_in_volume volume (name ∷ names) = (refl, local_in_volume volume names)

local_in_volumes : (names volumes : List (List ℕ)) → AreLocal (flat_map (λ volume. map (local_file volume) names) volumes)
local_in_volumes names [] = tt
local_in_volumes names (volume ∷ volumes) =
    local_append (map (local_file volume) names) (flat_map (λ v. map (local_file v) names) volumes) (local_in_volume volume names) (local_in_volumes names volumes)

kept_one : (b : Bool) (x : Candidate) (rest : List Candidate) → is_local x ≡ true → AreLocal rest → AreLocal (cond b (x ∷ rest) rest)
kept_one true x rest one h = (one, h)
kept_one false x rest one h = h

local_filter : (p : Candidate → Bool) (xs : List Candidate) → AreLocal xs → AreLocal (filter p xs)
local_filter p [] h = tt
local_filter p (x ∷ xs) h = kept_one (p x) x (filter p xs) h.0 (local_filter p xs h.1)

local_firsts : (xs : List Candidate) → AreLocal xs → AreLocal (firsts xs)
local_firsts [] h = tt
local_firsts (x ∷ xs) h = (h.0, local_filter (λ d. not (shows x.shown d)) (firsts xs) (local_firsts xs h.1))

pub listed_local : (board : Board) (mode : Mode) (volumes : List (List ℕ)) (list : List Candidate) → list ≡ firsts (local_files board mode volumes) → AreLocal list
listed_local board mode volumes list e =
    subst AreLocal (sym e) (local_firsts (local_files board mode volumes) (local_in_volumes (installer_names board None mode) (filter is_local_volume volumes)))

local_take : (n : ℕ) (xs : List Candidate) → AreLocal xs → AreLocal (take n xs)
local_take zero xs h = tt
local_take (suc n) [] h = tt
local_take (suc n) (x ∷ xs) h = (h.0, local_take n xs h.1)

-- ---- what their fetches take

pub no_needs : (list : List Candidate) → AreLocal list → needs_all list ≡ 0
no_needs [] h = refl
no_needs (c ∷ cs) h =
    let none : needs c ≡ 0 = ap (λ (b : Bool). cond b 0 1) h.0 in
    let rest = no_needs cs h.1 in
    let both = needs_cons c cs in
    omega (arith, both, none, rest)

aimed_local : (place : Place) (shown : List ℕ) → is_local (record { place = place; shown = shown }) ≡ true → aimed_for place shown ≡ aimeds.Local
aimed_local (places.Local volume name) shown h = refl
aimed_local places.Url shown h = absurd cc
aimed_local (places.Tftp server path) shown h = absurd cc

aim_local : (c : Candidate) → is_local c ≡ true → aim_of c ≡ aimeds.Local
unfolding aim_of
aim_local c h = aimed_local c.place c.shown h

same_clock : (rows : List Row) (t : Clock) (list : List Candidate) → AreLocal list → after_fetches rows t (asked_all list) ≡ t
same_clock rows t [] h = refl
same_clock rows t (c ∷ cs) h =
    let first : after_flow rows 1 t (flow_by (aim_of c)) ≡ t = ap (λ (a : Aimed). after_flow rows 1 t (flow_by a)) (aim_local c h.0) in
    ap (λ (u : Clock). after_fetches rows u (asked_all cs)) first ∙ same_clock rows t cs h.1

pub fetched_untraced : (s s' : Seen) (rows : List Row) (list : List Candidate) → AreLocal list → s.rows ≡ Some rows → Fetches s (asked_all list) s' → s'.trace ≡ s.trace
fetched_untraced s s' rows list h told made =
    Appends-nothing s.trace s'.trace (subst (λ (t : Clock). Appends s.trace s'.trace t.trace) (same_clock rows (clock_of s) list h) (made.passed rows told).trace)

take_nothing : (n : ℕ) → take {A = ℕ} n [] ≡ []
take_nothing zero = refl
take_nothing (suc n) = refl

broken_untraced : (s s' : Seen) (rows : List Row) (list : List Candidate) → AreLocal list → s.rows ≡ Some rows → BreaksOff s (asked_all list) s' → s'.trace ≡ s.trace
broken_untraced s s' rows list h told broken =
    let front : AppendsFront s.trace s'.trace [] = subst (λ (t : Clock). AppendsFront s.trace s'.trace t.trace) (same_clock rows (clock_of s) list h) (broken.front rows told) in
    Appends-nothing s.trace s'.trace (subst (Appends s.trace s'.trace) (take_nothing front.count) front.front)

-- the same of some of them
pub some_fetched_untraced : (s s' : Seen) (rows : List Row) (list : List Candidate) (n : ℕ) → AreLocal list → s.rows ≡ Some rows → Fetches s (take n (asked_all list)) s' → s'.trace ≡ s.trace
some_fetched_untraced s s' rows list n h told made =
    fetched_untraced s s' rows (take n list) (local_take n list h) told (subst (λ (xs : List Asked). Fetches s xs s') (asked_take n list) made)

pub some_broken_untraced : (s s' : Seen) (rows : List Row) (list : List Candidate) (n : ℕ) → AreLocal list → s.rows ≡ Some rows → BreaksOff s (take n (asked_all list)) s' → s'.trace ≡ s.trace
some_broken_untraced s s' rows list n h told broken =
    broken_untraced s s' rows (take n list) (local_take n list h) told (subst (λ (xs : List Asked). BreaksOff s xs s') (asked_take n list) broken)

pub left_for_none : (s : Seen) (n : ℕ) → n ≡ 0 → s.time ≡ 0 → s.opened ≡ 0 → ((k : ℕ) → s.flows k ≡ None) → HasLeft s n
left_for_none s n none time opened closed = record {
  closed = closed;
  flows = omega (arith, none, opened);
  time = (let product : n * 2 ^ 40 ≡ 0 = ap (λ (m : ℕ). m * 2 ^ 40) none in omega (arith, product, time));
}

-- ---- what they give

other_place : (rows : List Row) (volumes : List Volume) (a : Aimed) → fetched_by rows [] 1 places.Url a ≡ fetched_by rows volumes 1 places.Url a
other_place rows volumes aimeds.Local = refl
other_place rows volumes (aimeds.Refused miss) = refl
other_place rows volumes (aimeds.Aim aim) = refl

tftp_place : (rows : List Row) (volumes : List Volume) (server path : List ℕ) (a : Aimed) → fetched_by rows [] 1 (places.Tftp server path) a ≡ fetched_by rows volumes 1 (places.Tftp server path) a
tftp_place rows volumes server path aimeds.Local = refl
tftp_place rows volumes server path (aimeds.Refused miss) = refl
tftp_place rows volumes server path (aimeds.Aim aim) = refl

answer_at : (rows : List Row) (volumes : List Volume) (place : Place) (shown : List ℕ)
    → answer_of (Some rows) (Some volumes) 1 (record { place = place; shown = shown }) ≡ Some (fetched_over rows volumes 1 (record { place = place; shown = shown }))
unfolding aim_of
answer_at rows volumes (places.Local volume name) shown = refl
answer_at rows volumes places.Url shown = ap Some (other_place rows volumes (aimed_for places.Url shown))
answer_at rows volumes (places.Tftp server path) shown = ap Some (tftp_place rows volumes server path (aimed_for (places.Tftp server path) shown))

-- where the rows and the media are told, all answers are
pub all_answers : (rows : List Row) (media : Option (List Volume)) (volumes : List Volume) → media ≡ Some volumes → (c : Candidate) → answer_of (Some rows) media 1 c ≡ Some (fetched_over rows volumes 1 c)
all_answers rows media volumes told c = ap (λ (m : Option (List Volume)). answer_of (Some rows) m 1 c) told ∙ answer_at rows volumes c.place c.shown

-- the whole text, by the candidates that are listed
pub discover_text-is : (board : Board) (rows : List Row) (volumes : List Volume) (names : List (List ℕ)) (list : List Candidate) → list ≡ firsts (local_files board modes.Install names) → names ≡ volume_names volumes
    → lines_by (fetched_over rows volumes 1) list ≡ discover_text board rows volumes
unfolding discover_text
discover_text-is board rows volumes names list e n = ap (lines_of rows volumes) e ∙ rw n refl
