-- The laws of the texts and the hosts that requests are made of.
use Rattle.std.proofs.Common.{◌≡◌, ◌≢◌, ℕ, ◌<◌, true, false, not, ◌==◌, if◌then◌else◌, List, [], ◌∷◌, ◌++◌, length, Option, Some, None, unwrap_or, option_map, Result, Ok, Err, MatchResult, MatchOption, All, sym, refl, ap, ◌∙◌, subst, ⊎_elim, append-nil, arith, lit≤}
use Rattle.std.specs.Char.{is_ascii}
use Rattle.std.specs.List.{list_all}
use Rattle.std.specs.Option.{is_some, option_and_then}
use Rattle.std.specs.Result.{is_ok, result_ok}
use Rattle.std.specs.Str.{IsUtf8}
use Rattle.std.specs.declared.net.ipv4_addr.Ipv4Addr.{Ipv4Addr}
use Rattle.std.specs.Net.Grammar.{Parses, IsIpv4Text, IsDotted}
use Rattle.std.specs.Net.Reader.{whole_value, read_ipv4, read_octet, read_number}
use Rattle.std.proofs.lemmas.Bool.{true≢false, and_parts, cond-true, cond-false, cases_Bool, ltb-true}
use Rattle.std.proofs.lemmas.Bool.Decides.{nat_tests}
use Rattle.std.proofs.lemmas.List.{nil_from_length}
use Rattle.std.proofs.lemmas.List.Elements.{All-nil, All-cons}
use Rattle.std.proofs.lemmas.Str.{IsUtf8-from_ascii}
use Rattle.std.proofs.lemmas.Str.Ascii.{IsAscii-from_all}
use Rattle.std.proofs.NetLemmas.Ipv4.{read_ipv4_complete, read_ipv4_sound}
use Rattle.host_name.specs.HostName.{is_host_name}
use Rattle.url.specs.Host.{host_text, is_empty_host}
use Rattle.url.specs.Parser.{parse_url}
use Rattle.url.specs.Parts.{Parts}
use Rattle.url.specs.declared.error.ParseError.{ParseError}
use Rattle.url.specs.declared.host.Host.{Host}
use Rattle.url.specs.declared.host.Host.TheVariants.{Domain, Ipv4, Ipv6}
use Rattle.find_fetch.specs.Aim.{read_of, url_of, is_v4, named_spot, spot_of}

-- ---- texts

all_ascii : (text : List ℕ) → list_all is_ascii text ≡ true → All (λ b. b < 128) text
all_ascii [] e = All-nil (λ b. b < 128)
all_ascii (b ∷ text) e =
    All-cons (λ x. x < 128) b text (ltb-true b 128 (and_parts _ _ e).0) (all_ascii text (and_parts _ _ e).1)

-- a text that is all ASCII is read as a string, and as itself
pub ascii_read : {S E : Type 0} (now : S → List ℕ) (text : List ℕ) (r : Result S E) (Q : E → Type 0) → list_all is_ascii text ≡ true → MatchResult r (λ s. (now s ≡ text) × IsUtf8 text) (λ e. (¬ (IsUtf8 text)) × Q e) → MatchOption (result_ok r) (list_all is_ascii text ≡ false) (λ same. (list_all is_ascii text ≡ true) × (now same ≡ text))
ascii_read now text (Ok s) Q ascii read = (ascii, read.0)
ascii_read now text (Err e) Q ascii read = absurd (read.0 (IsUtf8-from_ascii text (IsAscii-from_all text (all_ascii text ascii))))

pub url_of-other : (text : List ℕ) → list_all is_ascii text ≡ false → None ≡ url_of text
unfolding url_of
url_of-other text e = sym (cond-false _ _ _ e)

pub url_of-ok : (text : List ℕ) (url : Parts) → list_all is_ascii text ≡ true → parse_url None text ≡ Ok url → Some url ≡ url_of text
unfolding url_of
url_of-ok text url ascii e = sym (cond-true _ _ _ ascii ∙ ap read_of e)

pub url_of-err : (text : List ℕ) (error : ParseError) → list_all is_ascii text ≡ true → parse_url None text ≡ Err error → None ≡ url_of text
unfolding url_of
url_of-err text error ascii e = sym (cond-true _ _ _ ascii ∙ ap read_of e)

-- ---- hosts

whole_v4 : (text octets : List ℕ) → IsDotted text octets → whole_value (read_ipv4 text) ≡ Some octets
whole_v4 text octets spelled =
    ap whole_value (ap read_ipv4 (sym (append-nil text)) ∙ read_ipv4_complete text octets [] spelled (lit≤ tt))

no_v4 : (text : List ℕ) → ((octets : List ℕ) → ¬ (IsDotted text octets)) → whole_value (read_ipv4 text) ≡ None
no_v4 text never = go (read_ipv4 text) refl
  where
    go : (r : _) → read_ipv4 text ≡ r → whole_value (read_ipv4 text) ≡ None
    go None e = ap whole_value e
    go (Some p) e =
        let sound = read_ipv4_sound text p.0 p.1 e in
        ap whole_value e ∙ ⊎_elim
        (λ ended. absurd (never p.0 (subst (λ t. IsDotted t p.0) (sym (sound.1 ∙ ap (λ r. sound.0 ++ r) (nil_from_length p.1 (grind (arith, nat_tests))) ∙ append-nil sound.0)) sound.2)))
        (λ more. rw more)
        (cases_Bool (length p.1 == 0))

-- a text is an IPv4 address exactly if std's parser reads it
pub v4_read : {E : Type 0} (text : List ℕ) (r : Result Ipv4Addr E) → Parses IsIpv4Text text r → is_ok r ≡ is_v4 text
unfolding is_v4
v4_read text (Ok address) spelled = sym (ap is_some (whole_v4 text _ spelled))
v4_read text (Err e) never = sym (ap is_some (no_v4 text (λ octets spelled. never (record { octets = octets }) spelled)))

empty_v4 : is_v4 [] ≡ false
unfolding is_v4 read_ipv4 read_octet read_number
empty_v4 = refl

empty_spot : named_spot [] ≡ None
unfolding is_host_name
empty_spot = cond-false _ _ _ empty_v4

has_text : (host : Host (List ℕ)) → is_empty_host host ≡ false → option_map host_text (if not (is_empty_host host) then Some host else None) ≢ None
has_text host filled e = true≢false (sym (ap is_some (ap (option_map host_text) (cond-true _ _ _ (ap not filled)))) ∙ ap is_some e)

-- no host, and the empty one, have no spot
pub no_spot : (host : Option (Host (List ℕ))) → option_map host_text (if not (is_empty_host (unwrap_or host (Domain []))) then host else None) ≡ None → None ≡ option_and_then spot_of host
no_spot None e = refl
no_spot (Some (Domain [])) e = sym empty_spot
no_spot (Some (Domain (b ∷ text))) e = absurd (has_text (Domain (b ∷ text)) (grind (arith, nat_tests)) e)
no_spot (Some (Ipv4 address)) e = absurd (has_text (Ipv4 address) refl e)
no_spot (Some (Ipv6 address)) e = absurd (has_text (Ipv6 address) refl e)
