-- A body is written sector by sector.
use Rattle.std.proofs.Common.{◌≡◌, inl, inr, ℕ, ◌+◌, ◌-◌, ◌*◌, ◌/◌, ◌<◌, ◌≤◌, ◌^◌, List, [], ◌++◌, length, get_or, take, drop, Some, refl, sym, ◌∙◌, ap, arith, length-append}
use Rattle.std.proofs.lemmas.Bool.{cases_lt}
use Rattle.std.proofs.lemmas.List.{same_lists, get_or-take, get_or-drop, get_or_default, length-take, length-drop, take_all, get_or_past}
use Rattle.byteorder.specs.Endian.{little_number}
use Rattle.byteorder.specs.Numbers.{little_number-reads_back}
use Rattle.bd_dev.specs.declared.plant.Area.{Area}
use Rattle.bd_dev.specs.Content.{Image, window}
use Rattle.bd_dev.proofs.Windows.{at_byte, get_or-window, length-window}
use Rattle.bd_dev.specs.Touching.{AgreesOutside}
use Rattle.slot_pair.specs.Body.{Written, body_bytes, body_head}
use Rattle.slot_pair.specs.Putting.{stored}
use Rattle.slot_model.specs.Slots.{body, body_length, body_number}
use Rattle.slot_pair.proofs.Frames.{body_fits}

-- one sector more
pub written_more : (area : Area) (gate i n : ℕ) (bytes sector : List ℕ) (z w : Image) → n / 512 ≡ 1 → n ≡ 512
    → Written (z area) (512 * (gate + 1)) bytes (512 * i) → AgreesOutside area (gate + 1 + i) (n / 512) z w → window (w area) (512 * (gate + 1 + i)) n ≡ sector
    → ((k : ℕ) → k < 512 → get_or sector k 0 ≡ get_or bytes (512 * i + k) 0) → Written (w area) (512 * (gate + 1)) bytes (512 * (i + 1))
written_more area gate i n bytes sector z w one size so_far agrees is here k lt = elim (cases_lt k (512 * i)) [
  | inl below ↦
      let at = 512 * (gate + 1) + k in
      at_byte (z area) (w area) at (agrees area (at / 512) (λ same. inl (omega arith))) ∙ so_far k below
  | inr above ↦
      let j = k - 512 * i in
      let small : j < n = omega arith in
      let place : 512 * (gate + 1 + i) + j ≡ 512 * (gate + 1) + k = omega arith in
      let index : 512 * i + j ≡ k = omega arith in
      ap (w area) (sym place) ∙ sym (get_or-window (w area) (512 * (gate + 1 + i)) n j 0 small) ∙ ap (λ (l : List ℕ). get_or l j 0) is ∙ here j (omega arith) ∙ ap (λ (m : ℕ). get_or bytes m 0) index
]

-- a window of what is written
window_of : (z : ℕ → ℕ) (at : ℕ) (bytes : List ℕ) (n a m : ℕ) → Written z at bytes n → a + m ≤ n → a + m ≤ length bytes → window z (at + a) m ≡ take m (drop a bytes)
window_of z at bytes n a m written low high =
    let long : length (take m (drop a bytes)) ≡ m = omega (arith, length-take m (drop a bytes), length-drop a bytes) in
    same_lists _ _ (length-window z (at + a) m ∙ sym long) (λ k d lt.
    let below : k < m = omega (arith, length-window z (at + a) m) in
    let place : at + a + k ≡ at + (a + k) = omega arith in
    get_or-window z (at + a) m k d below ∙ ap z place ∙ written (a + k) (omega arith) ∙ get_or_default bytes (a + k) 0 d (omega arith)
    ∙ sym (get_or-drop a bytes k d) ∙ sym (get_or-take m (drop a bytes) k d below))

pub length-head : (number n : ℕ) → length (body_head number n) ≡ 12
length-head number n = refl

-- past the head and the content
pub at_end : (head content : List ℕ) (at : ℕ) → length head ≡ 12 → 12 + length content ≤ at → 0 ≡ get_or (head ++ content) at 0
at_end head content at twelve past = sym (get_or_past (head ++ content) at 0 (omega (arith, length-append head content)))

module _ (n gate number : ℕ) (content : List ℕ) (z : ℕ → ℕ) (count : ℕ) (some : 12 + length content ≤ 512 * n) (size : n ≤ 65536) (in_range : number < 2 ^ 64) (enough : 12 + length content ≤ count) (written : Written z (512 * (gate + 1)) (body_bytes number content) count) where
  long : length (body_bytes number content) ≡ 12 + length content
  long = omega (arith, length-append (body_head number (length content)) content, length-head number (length content))

  is_number : body_number z gate ≡ number
  unfolding body_number
  is_number =
      let at : 512 * (gate + 1) ≡ 512 * (gate + 1) + 0 = omega arith in
      ap (λ (o : ℕ). little_number 8 (window z o 8)) at
      ∙ ap (little_number 8) (window_of z (512 * (gate + 1)) (body_bytes number content) count 0 8 written (omega arith) (omega (arith, long)))
      ∙ little_number-reads_back 8 number [] in_range

  is_length : body_length z gate ≡ length content
  unfolding body_length
  is_length =
      ap (little_number 4) (window_of z (512 * (gate + 1)) (body_bytes number content) count 8 4 written (omega arith) (omega (arith, long)))
      ∙ little_number-reads_back 4 (length content) [] (omega arith)

  is_content : window z (512 * (gate + 1) + 12) (length content) ≡ content
  is_content = window_of z (512 * (gate + 1)) (body_bytes number content) count 12 (length content) written enough (omega (arith, long)) ∙ take_all (length content) content (omega arith)

  pub whole_body : body n z gate ≡ stored number content
  whole_body =
      body_fits n z gate (omega (arith, is_length))
      ∙ (λ i. Some (record { number = is_number i; content = window z (512 * (gate + 1) + 12) (is_length i) }))
      ∙ ap (λ (l : List ℕ). Some (record { number = number; content = l })) is_content
