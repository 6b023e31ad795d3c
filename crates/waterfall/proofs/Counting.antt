-- How many candidates there are.
use Rattle.std.proofs.Common.{◌≡◌, ◌+◌, ◌*◌, ◌≤◌, ℕ, zero, suc, Bool, true, false, not, cond, List, [], ◌∷◌, ◌++◌, Option, Some, None, length, map, filter, refl, sym, ap, ◌∙◌, arith, rules, length-append}
use Rattle.std.specs.Prelude.{count_by}
use Rattle.std.specs.List.{flat_map}
use Rattle.std.proofs.lemmas.List.{length-map}
use Rattle.std.proofs.lemmas.List.Sums.{count_by-le-length, sum_by-append, sum_by-cons}
use Rattle.bd_mode.specs.declared.mode.Mode.{Mode}
use Rattle.bd_text.specs.declared.mac.Mac.{Mac}
use Rattle.bd_text.specs.declared.v4.V4.{V4}
use Rattle.dhcp_lease.specs.Lease.{Terms}
use Rattle.dhcp_lease.specs.LeaseView.{terms_of}
use Rattle.dhcp_lease.specs.declared.lease.Lease.{Lease}
use Rattle.tlvinfo.specs.Identity.{Board}
use Rattle.url_waterfall.specs.Names.{installer_names}
use Rattle.waterfall.specs.Firsts.{firsts, shows}
use Rattle.waterfall.specs.Leases.{at_maybe, boot_file, fronts, given, holds_mark, in_folder, is_given, on_server, on_tftp, own_url, tftp_server, tftps_of, urls_of, web_servers, webs_of, without_slash}
use Rattle.waterfall.specs.Places.{at_url, local_file, tftp_file, web_file}
use Rattle.waterfall.specs.Whole.{all_of, files_named, is_local, is_remote, of_lease, port_tftps, port_urls, port_webs}
use Rattle.waterfall.specs.declared.candidate.Candidate.{Candidate}
use Rattle.waterfall.specs.declared.port.Port.{Port}

-- each gives at most so many
pub few_of : {A B : Type 0} (f : A → List B) (k : ℕ) → ((x : A) → length (f x) ≤ k) → (xs : List A) → length (flat_map f xs) ≤ k * length xs
few_of f k each [] = omega arith
few_of f k each (x ∷ xs) =
    let rest = few_of f k each xs in
    let here = each x in
    let whole = length-append (f x) (flat_map f xs) in
    omega (arith, rest, here, whole)

-- so many servers
servers_few : (names : List (List ℕ)) (m : ℕ) (servers : List V4) → length servers ≤ m → length (flat_map (on_server names) servers) ≤ m * length names
servers_few names m [] few = omega arith
servers_few names zero (s ∷ servers) few = absurd (omega (arith, few))
servers_few names (suc m) (s ∷ servers) few =
    let rest = servers_few names m servers (omega (arith, few)) in
    let whole = length-append (on_server names s) (flat_map (on_server names) servers) in
    let here = length-map names (web_file s) in
    let product : suc m * length names ≡ m * length names + length names = search (rules, arith) in
    omega (arith, rest, whole, here, product)

pub webs_few : (names : List (List ℕ)) (t : Terms) → length t.www ≤ 8 → length t.tftps ≤ 8 → length (webs_of names t) ≤ 18 * length names
webs_few names t www tftps = servers_few names 18 (web_servers t) (by (is_given t.siaddr) refl)
  where
    by : (b : Bool) → is_given t.siaddr ≡ b → length (web_servers t) ≤ 18
    by true e = rw e (simp length-append (omega (arith, www, tftps)))
    by false e = rw e (simp length-append (omega (arith, www, tftps)))

-- names are twelve at most
pub names_few : (board : Board) (silicon : Option (List ℕ)) (mode : Mode) → length (installer_names board silicon mode) ≤ 12
names_few board None mode = omega arith
names_few board (Some s) mode = omega arith

-- a list with fewer, by a filter
count_by-filter_le : (p q : Candidate → Bool) (xs : List Candidate) → count_by p (filter q xs) ≤ count_by p xs
count_by-filter_le p q [] = omega arith
count_by-filter_le p q (x ∷ xs) = by (q x) (count_by-filter_le p q xs)
  where
    by : (b : Bool) → count_by p (filter q xs) ≤ count_by p xs → count_by p (cond b (x ∷ filter q xs) (filter q xs)) ≤ count_by p (x ∷ xs)
    by true rest =
        let kept = sum_by-cons (λ c. cond {A = ℕ} (p c) 1 0) x (filter q xs) in
        let whole = sum_by-cons (λ c. cond {A = ℕ} (p c) 1 0) x xs in
        omega (arith, rest, kept, whole)
    by false rest = let whole = sum_by-cons (λ c. cond {A = ℕ} (p c) 1 0) x xs in omega (arith, rest, whole)

count_by-firsts_le : (p : Candidate → Bool) (xs : List Candidate) → count_by p (firsts xs) ≤ count_by p xs
count_by-firsts_le p [] = omega arith
count_by-firsts_le p (x ∷ xs) =
    let rest = count_by-firsts_le p xs in
    let kept = count_by-filter_le p (λ d. not (shows x.shown d)) (firsts xs) in
    let first = sum_by-cons (λ c. cond {A = ℕ} (p c) 1 0) x (filter (λ d. not (shows x.shown d)) (firsts xs)) in
    let whole = sum_by-cons (λ c. cond {A = ℕ} (p c) 1 0) x xs in
    omega (arith, rest, kept, first, whole)

-- files of media are none of those that are counted
volume_none : (volume : List ℕ) (names : List (List ℕ)) → count_by is_remote (map (local_file volume) names) ≡ 0
volume_none volume [] = refl
volume_none volume (name ∷ names) = volume_none volume names

files_none : (names volumes : List (List ℕ)) → count_by is_remote (flat_map (λ volume. map (local_file volume) names) volumes) ≡ 0
files_none names [] = refl
files_none names (volume ∷ volumes) =
    let here = volume_none volume names in
    let rest = files_none names volumes in
    let whole = sum_by-append (λ c. cond {A = ℕ} (is_remote c) 1 0) (map (local_file volume) names) (flat_map (λ v. map (local_file v) names) volumes) in
    omega (arith, here, rest, whole)

maybe_few : (url : Option (List ℕ)) → length (at_maybe url) ≤ 1
maybe_few None = omega arith
maybe_few (Some url) = omega arith

boot_few : (file server : Option (List ℕ)) → length (boot_file file server) ≤ 1
boot_few None server = omega arith
boot_few (Some file) None = by (holds_mark file)
  where
    by : (b : Bool) → length (cond b (at_url file ∷ []) []) ≤ 1
    by true = omega arith
    by false = omega arith
boot_few (Some file) (Some server) = by (holds_mark file)
  where
    by : (b : Bool) → length (cond b (at_url file ∷ []) (tftp_file server (without_slash file) ∷ [])) ≤ 1
    by true = omega arith
    by false = omega arith

urls_few : (mode : Mode) (lease : Option Lease) → length (of_lease (urls_of mode) lease) ≤ 3
urls_few mode None = omega arith
urls_few mode (Some lease) =
    let own = maybe_few (own_url mode (terms_of lease)) in
    let url = maybe_few lease.url in
    let boot = boot_few lease.file (tftp_server (terms_of lease)) in
    simp length-append (omega (arith, own, url, boot))

folder_few : (names : List (List ℕ)) (server front : List ℕ) → length names ≤ 12 → length (in_folder names server front) ≤ 12
folder_few names server front few = let same = length-map names (λ name. tftp_file server (front ++ name)) in omega (arith, few, same)

tftp_few : (names : List (List ℕ)) (mac : Mac) (address : V4) (server : Option (List ℕ)) → length names ≤ 12 → length (on_tftp names (fronts mac address) server) ≤ 120
tftp_few names mac address None few = omega arith
tftp_few names mac address (Some server) few =
    let all = few_of (in_folder names server) 12 (λ front. folder_few names server front few) (fronts mac address) in
    omega (arith, all)

tftps_few : (names : List (List ℕ)) (mac : Mac) (lease : Option Lease) → length names ≤ 12 → length (of_lease (tftps_of names mac) lease) ≤ 120
tftps_few names mac None few = omega arith
tftps_few names mac (Some lease) few = tftp_few names mac lease.address (tftp_server (terms_of lease)) few

-- those that are not on local media
pub whole_few : (names : List (List ℕ)) (mode : Mode) (url : Option (List ℕ)) (volumes : List (List ℕ)) (ports : List Port)
    → length names ≤ 12 → length (flat_map (port_webs names) ports) ≤ 216 * length ports
    → count_by is_remote (firsts (all_of names mode url volumes ports)) ≤ 1 + 339 * length ports
whole_few names mode url volumes ports few webs =
    let firsts_le = count_by-firsts_le is_remote (all_of names mode url volumes ports) in
    let one = maybe_few url in
    let fixed = count_by-le-length is_remote (at_maybe url) in
    let files = files_none names (filter is_local volumes) in
    let urls = few_of (port_urls mode) 3 (λ p. urls_few mode p.lease) ports in
    let urls_le = count_by-le-length is_remote (flat_map (port_urls mode) ports) in
    let webs_le = count_by-le-length is_remote (flat_map (port_webs names) ports) in
    let tftps = few_of (port_tftps names) 120 (λ p. tftps_few names p.mac p.lease few) ports in
    let tftps_le = count_by-le-length is_remote (flat_map (port_tftps names) ports) in
    let count = λ (c : Candidate). cond {A = ℕ} (is_remote c) 1 0 in
    let join_1 = sum_by-append count (at_maybe url) (files_named names volumes) in
    let join_2 = sum_by-append count (at_maybe url ++ files_named names volumes) (flat_map (port_urls mode) ports) in
    let join_3 = sum_by-append count ((at_maybe url ++ files_named names volumes) ++ flat_map (port_urls mode) ports) (flat_map (port_webs names) ports) in
    let join_4 = sum_by-append count (((at_maybe url ++ files_named names volumes) ++ flat_map (port_urls mode) ports) ++ flat_map (port_webs names) ports) (flat_map (port_tftps names) ports) in
    omega (arith, firsts_le, one, fixed, files, urls, urls_le, webs, webs_le, tftps, tftps_le, join_1, join_2, join_3, join_4)
