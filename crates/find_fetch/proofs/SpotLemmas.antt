-- The spots of requests: addresses as labels show them, and names.
use Rattle.std.proofs.Common.{◌≡◌, ◌==◌, ℕ, Bool, true, false, if◌then◌else◌, List, [], ◌++◌, codes, length, Option, Some, None, MatchOption, Result, Ok, Err, IfOk, refl, sym, ap, subst, ◌∙◌, append-nil, arith}
use Rattle.std.specs.Prelude.{◌||◌, not, nat_eq}
use Rattle.std.specs.Option.{is_some, option_and_then, option_eq}
use Rattle.std.specs.Str.{bytes_eq}
use Rattle.std.specs.Net.Grammar.{IsDotted}
use Rattle.std.specs.Net.Reader.{read_ipv4, whole_value}
use Rattle.std.proofs.lemmas.Bool.Decides.{nat_tests}
use Rattle.std.proofs.lemmas.List.{nil_from_length}
use Rattle.std.proofs.NetLemmas.Ipv4.{read_ipv4_sound}
use Rattle.std.proofs.NetLemmas.Texts.{IsDotted-ipv4_text}
use Rattle.flow_labels.specs.Hosts.{IsHost}
use Rattle.flow_labels.proofs.Dotted.{v4_host}
use Rattle.flow_labels.proofs.Groups.{v6_host}
use Rattle.host_name.specs.HostName.{is_host_name, without_last_dot}
use Rattle.url.specs.Host.{IsHostOf}
use Rattle.url.specs.Parts.{IsValid, Parts, has_credentials, kind_of}
use Rattle.url.specs.Scheme.{is_special}
use Rattle.url.specs.declared.host.Host.{Host}
use Rattle.url.specs.declared.host.Host.TheVariants.{Domain, Ipv4, Ipv6}
use Rattle.url.specs.declared.scheme.SchemeType.{SchemeType}
use Rattle.find_fetch.specs.Aim.{IsAskable, IsSpot, aimed_by, at_spot, is_path, is_unfit, is_v4, named_spot, spot_of}
use Rattle.find_fetch.specs.declared.fetched.Miss.TheVariants.{BadUrl, Scheme}
use Rattle.find_fetch.specs.declared.request.Aim.{Aim}
use Rattle.find_fetch.specs.declared.request.Aimed.{Aimed}
use Rattle.find_fetch.specs.declared.request.Aimed.TheVariants as aimeds
use Rattle.find_fetch.specs.declared.request.Spot.{Spot}
use Rattle.find_fetch.specs.declared.request.Spot.TheVariants.{At, Called}
use Rattle.find_fetch.specs.declared.request.Way.TheVariants as ways

-- the text is an IPv4 address
v4_is : (text : List ℕ) → is_v4 text ≡ true → IsHost text
unfolding is_v4
v4_is text is = by_read (read_ipv4 text) refl is
  where
    by_length : (p : List ℕ × List ℕ) (b : Bool) → read_ipv4 text ≡ Some p → (length p.1 == 0) ≡ b → is_some (if b then Some p.0 else None) ≡ true → IsHost text
    by_length p true read ended some =
        let sound = read_ipv4_sound text p.0 p.1 read in
        let none : p.1 ≡ [] = nil_from_length p.1 (grind (arith, nat_tests)) in
        let whole : text ≡ sound.0 = sound.1 ∙ (ap (λ (r : List ℕ). sound.0 ++ r) none ∙ append-nil sound.0) in
        v4_host text p.0 (subst (λ (t : List ℕ). IsDotted t p.0) (sym whole) sound.2)
    by_length p false read ended some = absurd (cc some)

    by_read : (r : _) → read_ipv4 text ≡ r → is_some (whole_value r) ≡ true → IsHost text
    by_read None read some = absurd (cc some)
    by_read (Some p) read some = by_length p (length p.1 == 0) read refl some

named_is : (text : List ℕ) (spot : Spot) → named_spot text ≡ Some spot → IsSpot spot
named_is text spot e = by_v4 (is_v4 text) refl e
  where
    by_name : (b : Bool) → is_host_name (without_last_dot text) ≡ b → (if b then Some (Called (without_last_dot text)) else None) ≡ Some spot → IsSpot spot
    by_name true is e = let same : Called (without_last_dot text) ≡ spot = cc e in subst IsSpot same is
    by_name false is e = absurd (cc e)

    by_v4 : (b : Bool) → is_v4 text ≡ b
        → (if b then Some (At text) else (if is_host_name (without_last_dot text) then Some (Called (without_last_dot text)) else None)) ≡ Some spot → IsSpot spot
    by_v4 true is e = let same : At text ≡ spot = cc e in subst IsSpot same (v4_is text is)
    by_v4 false is e = by_name (is_host_name (without_last_dot text)) refl e

-- the spot of a host that a URL may have
spot_is : (kind : SchemeType) (host : Host (List ℕ)) (spot : Spot) → IsHostOf kind host → spot_of host ≡ Some spot → IsSpot spot
spot_is kind (Domain text) spot valid e = named_is text spot e
spot_is kind (Ipv4 address) spot valid e =
    let same : At _ ≡ spot = cc e in
    subst IsSpot same (v4_host _ _ (IsDotted-ipv4_text address.octets valid.0 valid.1))
spot_is kind (Ipv6 address) spot valid e =
    let same : At _ ≡ spot = cc e in
    subst IsSpot same (v6_host address.segments valid.1)

-- the spot of a request for a URL
pub request_spot : (url : Parts) (path : List ℕ) (aimed : Aimed) → IsValid url
    → aimed ≡ (if is_unfit url path then aimeds.Refused BadUrl else at_spot url path (option_and_then spot_of url.host))
    → (request : Aim) → aimed ≡ aimeds.Aim request → IsSpot request.spot
request_spot url path aimed valid e request is = by_test (is_unfit url path) e
  where
    by_spot : (o : Option Spot) → ((spot : Spot) → o ≡ Some spot → IsSpot spot) → aimed ≡ at_spot url path o → IsSpot request.spot
    by_spot None shown e = absurd (cc (e, is))
    by_spot (Some spot) shown e = let same : spot ≡ request.spot = ap (λ a. elim a [ aimeds.Aim r ↦ r.spot | aimeds.Local ↦ spot | aimeds.Refused m ↦ spot ]) (sym e ∙ is) in subst IsSpot same (shown spot refl)

    by_host : (host : Option (Host (List ℕ))) → MatchOption host (is_special (kind_of url) ≡ false) (IsHostOf (kind_of url)) → aimed ≡ at_spot url path (option_and_then spot_of host) → IsSpot request.spot
    by_host None valid e = absurd (cc (e, is))
    by_host (Some host) valid e = by_spot (spot_of host) (λ spot. spot_is (kind_of url) host spot valid) e

    by_test : (b : Bool) → aimed ≡ (if b then aimeds.Refused BadUrl else at_spot url path (option_and_then spot_of url.host)) → IsSpot request.spot
    by_test true e = absurd (cc (e, is))
    by_test false e = by_host url.host valid.head.host e

-- the same of what may lack memory
pub request_spots : {E : Type 0} (url : Parts) (path : List ℕ) (result : Result Aimed E) → IsValid url
    → IfOk result (λ aimed. aimed ≡ (if is_unfit url path then aimeds.Refused BadUrl else at_spot url path (option_and_then spot_of url.host)))
    → IfOk result (λ aimed. (request : Aim) → aimed ≡ aimeds.Aim request → IsSpot request.spot)
request_spots url path (Ok aimed) valid e = request_spot url path aimed valid e
request_spots url path (Err memory) valid e = tt

-- what a request asks for can be asked for
asked_path : (url : Parts) (path : List ℕ) (aimed : Aimed) (o : Option Spot) → is_path path ≡ true → aimed ≡ at_spot url path o → (request : Aim) → aimed ≡ aimeds.Aim request → IsAskable request.way
asked_path url path aimed None fit e request is = absurd (cc (e, is))
asked_path url path aimed (Some spot) fit e request is =
    let same : ways.Tftp path ≡ request.way = ap (λ a. elim a [ aimeds.Aim r ↦ r.way | aimeds.Local ↦ ways.Tftp path | aimeds.Refused m ↦ ways.Tftp path ]) (sym e ∙ is) in
    subst IsAskable same fit

askable_by : (url : Parts) (path : List ℕ) (aimed : Aimed) → aimed ≡ (if is_unfit url path then aimeds.Refused BadUrl else at_spot url path (option_and_then spot_of url.host))
    → (request : Aim) → aimed ≡ aimeds.Aim request → IsAskable request.way
askable_by url path aimed e request is = by_test (has_credentials url || option_eq nat_eq url.port (Some 0)) (is_path path) refl e
  where
    by_test : (a b : Bool) → is_path path ≡ b → aimed ≡ (if a || not b then aimeds.Refused BadUrl else at_spot url path (option_and_then spot_of url.host)) → IsAskable request.way
    by_test true b fit e = absurd (cc (e, is))
    by_test false true fit e = asked_path url path aimed (option_and_then spot_of url.host) fit e request is
    by_test false false fit e = absurd (cc (e, is))

pub aimed_askable : (o : Option Parts) (path : Parts → List ℕ) (aimed : Aimed) → aimed ≡ aimed_by o path → (request : Aim) → aimed ≡ aimeds.Aim request → IsAskable request.way
aimed_askable None path aimed e request is = absurd (cc (e, is))
aimed_askable (Some url) path aimed e request is = by_scheme (bytes_eq url.scheme (codes "tftp")) e
  where
    by_scheme : (b : Bool) → aimed ≡ (if not b then aimeds.Refused Scheme else (if is_unfit url (path url) then aimeds.Refused BadUrl else at_spot url (path url) (option_and_then spot_of url.host))) → IsAskable request.way
    by_scheme true e = askable_by url (path url) aimed e request is
    by_scheme false e = absurd (cc (e, is))

pub texts_askable : {E : Type 0} (o : Option Parts) (path : Parts → List ℕ) (result : Result Aimed E) → IfOk result (λ aimed. aimed ≡ aimed_by o path)
    → IfOk result (λ aimed. (request : Aim) → aimed ≡ aimeds.Aim request → IsAskable request.way)
texts_askable o path (Ok aimed) e = aimed_askable o path aimed e
texts_askable o path (Err memory) e = tt
