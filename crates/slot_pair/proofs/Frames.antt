-- What a slot holds depends on its sectors alone.
use Rattle.std.proofs.Common.{◌≡◌, ◌⊎◌, inl, inr, ℕ, ◌+◌, ◌*◌, ◌/◌, ◌<◌, ◌≤◌, List, true, false, cond, nat_le, Some, None, refl, sym, ◌∙◌, ap, subst, arith}
use Rattle.std.proofs.lemmas.Bool.{cases_lt}
use Rattle.std.proofs.lemmas.Bool.Decides.{nat_tests}
use Rattle.std.specs.Str.{bytes_eq}
use Rattle.byteorder.specs.Endian.{little_number}
use Rattle.bd_dev.specs.Content.{SameSector, window}
use Rattle.bd_dev.proofs.Windows.{at_byte, same_window}
use Rattle.slot_model.specs.Slots.{body, body_length, body_number, is_open_gate, most_bytes, open_word, slot}

-- a run of bytes within sectors on which two contents agree
same_range : (z c : ℕ → ℕ) (lo n : ℕ) → ((s : ℕ) → lo ≤ s → s < lo + n → SameSector z c s) → (at m : ℕ) → 512 * lo ≤ at → at + m ≤ 512 * (lo + n) → window c at m ≡ window z at m
same_range z c lo n same at m low high = same_window z c at m (λ k le lt. at_byte z c k (same (k / 512) (omega arith) (omega arith)))

pub gate_frame : (z c : ℕ → ℕ) (gate : ℕ) → SameSector z c gate → is_open_gate c gate ≡ is_open_gate z gate
unfolding is_open_gate
gate_frame z c gate same =
    let here : (s : ℕ) → gate ≤ s → s < gate + 1 → SameSector z c s = λ s le lt. let is : gate ≡ s = omega arith in subst (SameSector z c) is same in
    ap (λ (l : List ℕ). bytes_eq l open_word) (same_range z c gate 1 here (512 * gate) 8 (omega arith) (omega arith))

pub slot_shut : (n : ℕ) (z : ℕ → ℕ) (gate : ℕ) → is_open_gate z gate ≡ false → slot n z gate ≡ None
unfolding slot
slot_shut n z gate shut = ap (λ b. cond b (body n z gate) None) shut

pub slot_opened : (n : ℕ) (z : ℕ → ℕ) (gate : ℕ) → is_open_gate z gate ≡ true → slot n z gate ≡ body n z gate
unfolding slot
slot_opened n z gate is_open = ap (λ b. cond b (body n z gate) None) is_open

-- a slot is empty, or it holds its body
pub slot_cases : (n : ℕ) (z : ℕ → ℕ) (gate : ℕ) → (slot n z gate ≡ None) ⊎ (slot n z gate ≡ body n z gate)
unfolding slot
slot_cases n z gate = elim (is_open_gate z gate) as (λ b. (cond b (body n z gate) None ≡ None) ⊎ (cond b (body n z gate) None ≡ body n z gate)) [ true ↦ inr refl | false ↦ inl refl ]

pub body_fits : (n : ℕ) (z : ℕ → ℕ) (gate : ℕ) → body_length z gate ≤ most_bytes n → body n z gate ≡ Some (record { number = body_number z gate; content = window z (512 * (gate + 1) + 12) (body_length z gate) })
unfolding body
body_fits n z gate le = let test : nat_le (body_length z gate) (most_bytes n) ≡ true = grind (arith, nat_tests) in ap (λ b. cond b (Some (record { number = body_number z gate; content = window z (512 * (gate + 1) + 12) (body_length z gate) })) None) test

body_too_long : (n : ℕ) (z : ℕ → ℕ) (gate : ℕ) → most_bytes n < body_length z gate → body n z gate ≡ None
unfolding body
body_too_long n z gate lt = let test : nat_le (body_length z gate) (most_bytes n) ≡ false = grind (arith, nat_tests) in ap (λ b. cond b (Some (record { number = body_number z gate; content = window z (512 * (gate + 1) + 12) (body_length z gate) })) None) test

module _ (n : ℕ) (z c : ℕ → ℕ) (gate : ℕ) (some : 0 < n) (same : (s : ℕ) → gate + 1 ≤ s → s < gate + 1 + n → SameSector z c s) where
  same_length : body_length c gate ≡ body_length z gate
  unfolding body_length
  same_length = ap (little_number 4) (same_range z c (gate + 1) n same (512 * (gate + 1) + 8) 4 (omega arith) (omega arith))

  same_number : body_number c gate ≡ body_number z gate
  unfolding body_number
  same_number = ap (little_number 8) (same_range z c (gate + 1) n same (512 * (gate + 1)) 8 (omega arith) (omega arith))

  pub body_frame : body n c gate ≡ body n z gate
  body_frame = elim (cases_lt (most_bytes n) (body_length z gate)) [
    | inr le ↦
        body_fits n c gate (omega (arith, same_length, le))
        ∙ (λ i. Some (record { number = same_number i; content = window c (512 * (gate + 1) + 12) (same_length i) }))
        ∙ ap (λ (l : List ℕ). Some (record { number = body_number z gate; content = l })) (same_range z c (gate + 1) n same (512 * (gate + 1) + 12) (body_length z gate) (omega arith) (omega arith))
        ∙ sym (body_fits n z gate le)
    | inl lt ↦ body_too_long n c gate (omega (arith, same_length, lt)) ∙ sym (body_too_long n z gate lt)
  ]

pub slot_frame : (n : ℕ) (z c : ℕ → ℕ) (gate : ℕ) → 0 < n → ((s : ℕ) → gate ≤ s → s < gate + 1 + n → SameSector z c s) → slot n c gate ≡ slot n z gate
unfolding slot
slot_frame n z c gate some same = λ i. cond (gate_frame z c gate (same gate (omega arith) (omega arith)) i) (body_frame n z c gate some (λ s le lt. same s (omega arith) lt) i) None
