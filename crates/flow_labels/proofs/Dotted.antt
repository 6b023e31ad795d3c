-- A text that std reads as an IPv4 address is one.
use Rattle.std.proofs.Common.{◌≡◌, inl, inr, ℕ, ◌<◌, List, [], ◌∷◌, ◌++◌, codes, append_assoc, decimal, refl, sym, subst, arith}
use Rattle.std.specs.List.{join_with_byte}
use Rattle.std.specs.Net.Grammar.{IsDotted}
use Rattle.std.specs.Net.Text.{dotted_text}
use Rattle.std.proofs.lemmas.Bool.{cases_eq}
use Rattle.std.proofs.lemmas.Fmt.{decimal_is_IsNumeral, decimal_nonempty, first_decimal, length-decimal-le}
use Rattle.bd_text.specs.Octet.{SpellsOctet}
use Rattle.bd_text.specs.V4.{SpellsV4}
use Rattle.flow_labels.specs.Hosts.{IsHost}

octet_is : (n : ℕ) → n < 256 → SpellsOctet n (decimal n)
octet_is n lt =
    let numeral = decimal_is_IsNumeral n (omega (arith, lt)) in
    record {
      some = decimal_nonempty n (omega (arith, lt));
      few = length-decimal-le 3 n (omega arith) (omega (arith, lt)) (omega (arith, lt));
      unpadded = λ zero_first. elim (cases_eq n 0) [
        | inl none ↦ (let le = length-decimal-le 1 n (omega arith) (omega (arith, none)) (omega (arith, lt)) in let ge = decimal_nonempty n (omega (arith, lt)) in omega (arith, le, ge))
        | inr more ↦ absurd (let above = first_decimal n (omega (arith, more)) (omega (arith, lt)) in omega (arith, above, zero_first))
      ];
      decimal = record { digits = numeral.0.1; value = numeral.1 };
      small = lt;
    }

joined_text : (a b c d : List ℕ) → a ++ codes "." ++ b ++ codes "." ++ c ++ codes "." ++ d ≡ join_with_byte 46 (a ∷ b ∷ c ∷ d ∷ [])
joined_text a b c d = simp append_assoc

pub dotted_is : (text octets : List ℕ) → IsDotted text octets → SpellsV4 octets text
dotted_is text octets is =
    let bytes = is.a ∷ is.b ∷ is.c ∷ is.d ∷ [] in
    let spelled : SpellsV4 bytes (dotted_text is.a is.b is.c is.d) = record {
      four = refl;
      octets = record {
        parts = decimal is.a ∷ decimal is.b ∷ decimal is.c ∷ decimal is.d ∷ [];
        each = (octet_is is.a is.fit.0, (octet_is is.b is.fit.1, (octet_is is.c is.fit.2, (octet_is is.d is.fit.3, tt))));
        joined = joined_text (decimal is.a) (decimal is.b) (decimal is.c) (decimal is.d);
      };
    } in
    subst (λ (t : List ℕ). SpellsV4 octets t) (sym is.spelled) (subst (λ (o : List ℕ). SpellsV4 o (dotted_text is.a is.b is.c is.d)) (sym is.value) spelled)

pub v4_host : (text octets : List ℕ) → IsDotted text octets → IsHost text
v4_host text octets is = inl (octets, dotted_is text octets is)
