-- A server is parted at its last colon in one way.
use Rattle.std.proofs.Common.{inl, inr, ◌≡◌, ℕ, ◌+◌, List, take, drop, true, false, Option, Some, None, is_some, refl, sym, ◌∙◌, ap, arith}
use Rattle.std.specs.Prelude.{◌==◌, slice_index}
use Rattle.std.proofs.lemmas.Bool.{eqb-true, cases_lt}
use Rattle.std.proofs.lemmas.Bool.Decides.{Decides-eqb}
use Rattle.memchr.specs.Find.{IsLastByte, is_byte}
use Rattle.net_script.specs.Hosts.{IsParted}

is_colon : (x : ℕ) → x ≡ 0x3A → (x == 0x3A) ≡ true
is_colon x is = (Decides-eqb x 0x3A).1 is

pub parted_at : (server : List ℕ) (at : ℕ) → IsLastByte (is_byte 0x3A) server (Some at) → IsParted server (take at server) (drop (at + 1) server)
parted_at server at last = record {
  at = at;
  within = last.0.high;
  here = eqb-true (slice_index server at) 0x3A last.1;
  last = λ k later inside colon. last.0.after k (omega (arith, later)) inside (is_colon (slice_index server k) colon);
  host_is = refl;
  port_is = refl;
}

pub not_parted : (server : List ℕ) → IsLastByte (is_byte 0x3A) server None → (host port : List ℕ) → ¬ IsParted server host port
not_parted server none host port parted = none parted.at (omega arith) parted.within (is_colon (slice_index server parted.at) parted.here)

one_place : (server h p i q : List ℕ) (one : IsParted server h p) (other : IsParted server i q) → one.at ≡ other.at
one_place server h p i q one other = elim (cases_lt one.at other.at) [
  | inl lt ↦ absurd (one.last other.at lt other.within other.here)
  | inr le ↦ elim (cases_lt other.at one.at) [
    | inl lt ↦ absurd (other.last one.at lt one.within one.here)
    | inr same ↦ omega (arith, le, same)
  ]
]

pub one_host : (server h p i q : List ℕ) → IsParted server h p → IsParted server i q → h ≡ i
one_host server h p i q one other = one.host_is ∙ ap (λ (n : ℕ). take n server) (one_place server h p i q one other) ∙ sym other.host_is

pub one_port : (server h p i q : List ℕ) → IsParted server h p → IsParted server i q → p ≡ q
one_port server h p i q one other = one.port_is ∙ ap (λ (n : ℕ). drop (n + 1) server) (one_place server h p i q one other) ∙ sym other.port_is

pub not_some : {T : Type 0} (o : Option T) (x : T) → is_some o ≡ false → o ≡ Some x → ⊥
not_some None x none some = absurd (cc some)
not_some (Some y) x none some = absurd (cc none)
