-- What the first sectors of a slot say of it.
use Rattle.std.proofs.Common.{◌≡◌, ℕ, ◌+◌, ◌-◌, ◌*◌, ◌<◌, ◌≤◌, List, length, take, drop, Bool, true, false, ◌&&◌, cond, nat_le, Some, None, refl, sym, ◌∙◌, ap, arith}
use Rattle.std.proofs.lemmas.Bool.Decides.{nat_tests}
use Rattle.std.specs.Str.{bytes_eq}
use Rattle.std.specs.Option.{option_map}
use Rattle.byteorder.specs.Endian.{little_number}
use Rattle.byteorder.specs.Numbers.{little_from-take}
use Rattle.bd_dev.specs.Content.{window}
use Rattle.bd_dev.proofs.Windows.{length-window, take-window, drop-window}
use Rattle.slot_pair.specs.Head.{content_length, number_in}
use Rattle.slot_model.specs.Slots.{Stored, body, body_content, body_length, body_number, is_open_gate, most_bytes, open_word, slot}

-- a number is read from its own bytes alone
front_number : (z : ℕ → ℕ) (at m n : ℕ) → n ≤ m → little_number n (window z at m) ≡ little_number n (window z at n)
front_number z at m n le = sym (little_from-take 0 n n (window z at m) (omega arith)) ∙ ap (little_number n) (take-window z at m n le)

-- the sector behind a gate
behind : (z : ℕ → ℕ) (gate : ℕ) → drop 512 (window z (512 * gate) 1024) ≡ window z (512 * (gate + 1)) 512
behind z gate =
    let here : 512 * gate + 512 ≡ 512 * (gate + 1) = omega arith in
    drop-window z (512 * gate) 512 512 ∙ ap (λ (at : ℕ). window z at 512) here

pub length_says : (z : ℕ → ℕ) (gate m : ℕ) → 4 ≤ m → content_length (window z (512 * (gate + 1)) (8 + m)) ≡ body_length z gate
unfolding body_length
length_says z gate m le = ap (little_number 4) (drop-window z (512 * (gate + 1)) 8 m) ∙ front_number z (512 * (gate + 1) + 8) m 4 le

number_says : (z : ℕ → ℕ) (gate : ℕ) → little_number 8 (window z (512 * (gate + 1)) 512) ≡ body_number z gate
unfolding body_number
number_says z gate = front_number z (512 * (gate + 1)) 512 8 (omega arith)

gate_says : (z : ℕ → ℕ) (gate : ℕ) → bytes_eq (take 8 (window z (512 * gate) 1024)) open_word ≡ is_open_gate z gate
unfolding is_open_gate
gate_says z gate = ap (λ (l : List ℕ). bytes_eq l open_word) (take-window z (512 * gate) 1024 8 (omega arith))

-- the number of what two tests let through
both : (a b : Bool) (s : Stored) → cond (a && b) (Some s.number) None ≡ option_map (λ s. s.number) (cond a (cond b (Some s) None) None)
both true true s = refl
both true false s = refl
both false b s = refl

pub head_says : (n : ℕ) (z : ℕ → ℕ) (gate : ℕ) → number_in n (window z (512 * gate) 1024) ≡ option_map (λ s. s.number) (slot n z gate)
unfolding number_in slot body
head_says n z gate =
    let long : content_length (drop 512 (window z (512 * gate) 1024)) ≡ body_length z gate = ap content_length (behind z gate) ∙ length_says z gate 504 (omega arith) in
    let number : little_number 8 (drop 512 (window z (512 * gate) 1024)) ≡ body_number z gate = ap (little_number 8) (behind z gate) ∙ number_says z gate in
    (λ i. cond (gate_says z gate i && nat_le (long i) (most_bytes n)) (Some (number i)) None)
    ∙ both (is_open_gate z gate) (nat_le (body_length z gate) (most_bytes n)) (record { number = body_number z gate; content = body_content z gate })

-- what an open slot holds
record Holds (n : ℕ) (z : ℕ → ℕ) (gate : ℕ) (s : Stored) : Type 0 where
  fits : nat_le (body_length z gate) (most_bytes n) ≡ true
  content : s.content ≡ body_content z gate

of_tests : (n : ℕ) (z : ℕ → ℕ) (gate : ℕ) (s : Stored) (a b : Bool) → nat_le (body_length z gate) (most_bytes n) ≡ b → cond a (cond b (Some (record { number = body_number z gate; content = body_content z gate })) None) None ≡ Some s → Holds n z gate s
of_tests n z gate s true true test is = record { fits = test; content = let e : Some s ≡ Some (record { number = body_number z gate; content = body_content z gate }) = sym is in ap (λ (t : Stored). t.content) (let f : s ≡ record { number = body_number z gate; content = body_content z gate } = cc in f) }
of_tests n z gate s true false test is = absurd (cc)
of_tests n z gate s false b test is = absurd (cc)

holds : (n : ℕ) (z : ℕ → ℕ) (gate : ℕ) (s : Stored) → slot n z gate ≡ Some s → Holds n z gate s
unfolding slot body
holds n z gate s is = of_tests n z gate s (is_open_gate z gate) (nat_le (body_length z gate) (most_bytes n)) refl is

-- the content of a slot that was read, in the first n sectors behind its gate
pub content_says : (n : ℕ) (z : ℕ → ℕ) (gate : ℕ) (s : Stored) (body : List ℕ) (len : ℕ) (out : List ℕ) → 0 < n → slot n z gate ≡ Some s
    → body ≡ window z (512 * (gate + 1)) (512 * n) → (content_length body + 12 ≤ length body → len ≡ content_length body)
    → take len out ≡ take len (drop 12 body) → take len out ≡ s.content
content_says n z gate s body len out some is read length_is moved =
    let held = holds n z gate s is in
    let parts : 512 * n ≡ 8 + (512 * n - 8) = omega arith in
    let behind : 512 * n ≡ 12 + (512 * n - 12) = omega arith in
    let says : content_length body ≡ body_length z gate =
    ap content_length (read ∙ ap (λ (m : ℕ). window z (512 * (gate + 1)) m) parts) ∙ length_says z gate (512 * n - 8) (omega arith) in
    let long : length body ≡ 512 * n = ap length read ∙ length-window z (512 * (gate + 1)) (512 * n) in
    let within : body_length z gate ≤ 512 * n - 12 = grind (arith, nat_tests, held.fits) in
    let its : len ≡ body_length z gate = length_is (omega arith) ∙ says in
    let rest : drop 12 body ≡ window z (512 * (gate + 1) + 12) (512 * n - 12) =
    ap (drop 12) (read ∙ ap (λ (m : ℕ). window z (512 * (gate + 1)) m) behind) ∙ drop-window z (512 * (gate + 1)) 12 (512 * n - 12) in
    moved ∙ ap (take len) rest ∙ take-window z (512 * (gate + 1) + 12) (512 * n - 12) len (omega arith)
    ∙ ap (λ (m : ℕ). window z (512 * (gate + 1) + 12) m) its ∙ sym held.content
