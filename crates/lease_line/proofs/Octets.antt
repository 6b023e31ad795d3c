-- Texts that are addresses, as std's reader has them.
use Rattle.std.proofs.Common.{◌≡◌, ℕ, ◌==◌, List, [], ◌++◌, length, Some, None, option_map, ap, sym, subst, ◌∙◌, ⊎_elim, refl, append-nil, arith, lit≤}
use Rattle.std.specs.declared.net.ipv4_addr.Ipv4Addr.{Ipv4Addr}
use Rattle.std.specs.Net.Grammar.{IsIpv4Text, IsDotted}
use Rattle.std.specs.Net.Reader.{whole_value, read_ipv4}
use Rattle.std.proofs.lemmas.Bool.{cases_Bool}
use Rattle.std.proofs.lemmas.Bool.Decides.{nat_tests}
use Rattle.std.proofs.lemmas.List.{nil_from_length}
use Rattle.std.proofs.NetLemmas.Ipv4.{read_ipv4_complete, read_ipv4_sound}
use Rattle.bd_text.specs.declared.v4.V4.{V4}
use Rattle.lease_line.specs.Addresses.{address_in}

whole_v4 : (text octets : List ℕ) → IsDotted text octets → whole_value (read_ipv4 text) ≡ Some octets
whole_v4 text octets spelled =
    ap whole_value (ap read_ipv4 (sym (append-nil text)) ∙ read_ipv4_complete text octets [] spelled (lit≤ tt))

no_v4 : (text : List ℕ) → ((octets : List ℕ) → ¬ (IsDotted text octets)) → whole_value (read_ipv4 text) ≡ None
no_v4 text never = go (read_ipv4 text) refl
  where
    go : (r : _) → read_ipv4 text ≡ r → whole_value (read_ipv4 text) ≡ None
    go None e = ap whole_value e
    go (Some p) e =
        let sound = read_ipv4_sound text p.0 p.1 e in
        ap whole_value e ∙ ⊎_elim
        (λ ended. absurd (never p.0 (subst (λ t. IsDotted t p.0) (sym (sound.1 ∙ ap (λ r. sound.0 ++ r) (nil_from_length p.1 (grind (arith, nat_tests))) ∙ append-nil sound.0)) sound.2)))
        (λ more. rw more)
        (cases_Bool (length p.1 == 0))

abbrev pub in_v4 : List ℕ → V4
in_v4 octets = record { bytes = octets }

pub address_read : (text : List ℕ) (address : Ipv4Addr) → IsIpv4Text text address → Some (in_v4 address.octets) ≡ address_in text
unfolding address_in
address_read text address spelled = sym (ap (option_map in_v4) (whole_v4 text address.octets spelled))

pub address_none : (text : List ℕ) → ((address : Ipv4Addr) → ¬ (IsIpv4Text text address)) → None ≡ address_in text
unfolding address_in
address_none text never = sym (ap (option_map in_v4) (no_v4 text (λ octets spelled. never (record { octets = octets }) spelled)))
