-- The candidates are files of local media, at most ten for each volume.
use Rattle.std.proofs.Common.{◌≡◌, ℕ, ◌*◌, ◌≤◌, Bool, true, false, cond, not, List, [], ◌∷◌, ◌++◌, None, length, map, filter, refl, ap, ◌∙◌, arith, length-append}
use Rattle.std.specs.List.{flat_map, list_all}
use Rattle.std.proofs.lemmas.Bool.{and_parts}
use Rattle.std.proofs.lemmas.List.{length-map}
use Rattle.tlvinfo.specs.Identity.{Board}
use Rattle.bd_mode.specs.declared.mode.Mode.{Mode}
use Rattle.url_waterfall.specs.Candidates.{is_file, is_local, local_file, local_files}
use Rattle.url_waterfall.specs.Firsts.{firsts, shows}
use Rattle.url_waterfall.specs.Names.{installer_names}
use Rattle.url_waterfall.specs.declared.candidate.Candidate.{Candidate}

files_append : (xs ys : List Candidate) → list_all is_file xs ≡ true → list_all is_file ys ≡ true → list_all is_file (xs ++ ys) ≡ true
files_append [] ys a b = b
files_append (x ∷ xs) ys a b =
    let first : is_file x ≡ true = (and_parts _ _ a).0 in
    rw first (files_append xs ys (and_parts _ _ a).1 b)

files_in_volume : (volume : List ℕ) (names : List (List ℕ)) → list_all is_file (map (local_file volume) names) ≡ true
files_in_volume volume [] = refl
files_in_volume volume (name ∷ names) = files_in_volume volume names

files_in_volumes : (names volumes : List (List ℕ)) → list_all is_file (flat_map (λ volume. map (local_file volume) names) volumes) ≡ true
files_in_volumes names [] = refl
files_in_volumes names (volume ∷ volumes) =
    files_append (map (local_file volume) names) (flat_map (λ v. map (local_file v) names) volumes) (files_in_volume volume names) (files_in_volumes names volumes)

files_filter : (p : Candidate → Bool) (xs : List Candidate) → list_all is_file xs ≡ true → list_all is_file (filter p xs) ≡ true
files_filter p [] h = refl
files_filter p (x ∷ xs) h =
    let first : is_file x ≡ true = (and_parts _ _ h).0 in
    let later = files_filter p xs (and_parts _ _ h).1 in
    elim (p x) as (λ b. list_all is_file (cond b (x ∷ filter p xs) (filter p xs)) ≡ true) [ true ↦ rw first later | false ↦ later ]

files_firsts : (xs : List Candidate) → list_all is_file xs ≡ true → list_all is_file (firsts xs) ≡ true
files_firsts [] h = refl
files_firsts (x ∷ xs) h =
    let first : is_file x ≡ true = (and_parts _ _ h).0 in
    rw first (files_filter (λ d. not (shows x.shown d)) (firsts xs) (files_firsts xs (and_parts _ _ h).1))

-- each is a file of a local medium
pub all_files : (board : Board) (mode : Mode) (volumes : List (List ℕ)) (list : List Candidate) → list ≡ firsts (local_files board mode volumes) → list_all is_file list ≡ true
all_files board mode volumes list e =
    ap (list_all is_file) e ∙ files_firsts (local_files board mode volumes) (files_in_volumes (installer_names board None mode) (filter is_local volumes))

fewer : {X : Type 0} (p : X → Bool) (xs : List X) → length (filter p xs) ≤ length xs
fewer p [] = omega arith
fewer p (x ∷ xs) =
    let later = fewer p xs in
    elim (p x) as (λ b. length (cond b (x ∷ filter p xs) (filter p xs)) ≤ length (x ∷ xs)) [ true ↦ omega (arith, later) | false ↦ omega (arith, later) ]

fewer_firsts : (xs : List Candidate) → length (firsts xs) ≤ length xs
fewer_firsts [] = omega arith
fewer_firsts (x ∷ xs) =
    let later = fewer_firsts xs in
    let kept = fewer (λ d. not (shows x.shown d)) (firsts xs) in
    omega (arith, later, kept)

each_named : (names volumes : List (List ℕ)) → length names ≡ 10 → length (flat_map (λ volume. map (local_file volume) names) volumes) ≡ 10 * length volumes
each_named names [] ten = refl
each_named names (volume ∷ volumes) ten =
    let here = length-map names (local_file volume) in
    let later = each_named names volumes ten in
    let both = length-append (map (local_file volume) names) (flat_map (λ v. map (local_file v) names) volumes) in
    omega (arith, here, later, both, ten)

-- at most ten for each volume
pub few_files : (board : Board) (mode : Mode) (volumes : List (List ℕ)) (list : List Candidate) → list ≡ firsts (local_files board mode volumes) → length list ≤ 10 * length volumes
few_files board mode volumes list e =
    let all = each_named (installer_names board None mode) (filter is_local volumes) refl in
    let kept = fewer_firsts (local_files board mode volumes) in
    let locals = fewer is_local volumes in
    let is = ap length e in
    omega (arith, all, kept, locals, is)
