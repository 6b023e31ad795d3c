-- What a put changes of a disk.
use Rattle.std.proofs.Common.{◌≡◌, ◌⊎◌, inl, inr, ℕ, ◌+◌, ◌-◌, ◌*◌, ◌/◌, ◌%◌, ◌<◌, ◌≤◌, List, length, slice_index, true, false, cond, ◌&&◌, nat_le, nat_lt, sym, ◌∙◌, ap, arith}
use Rattle.std.proofs.lemmas.Bool.{cases_lt}
use Rattle.std.proofs.lemmas.Bool.Decides.{nat_tests}
use Rattle.bd_dev.specs.Content.{SameSector, window}
use Rattle.bd_dev.proofs.Windows.{get_or-window}
use Rattle.cuts.specs.States.{InPut, patch}

below_patch : (z : ℕ → ℕ) (at : ℕ) (bytes : List ℕ) (k : ℕ) → k < at → patch z at bytes k ≡ z k
unfolding patch
below_patch z at bytes k below =
    let test : nat_le at k ≡ false = grind (arith, nat_tests) in
    ap (λ b. cond (b && nat_lt k (at + length bytes)) (slice_index bytes (k - at)) (z k)) test

above_patch : (z : ℕ → ℕ) (at : ℕ) (bytes : List ℕ) (k : ℕ) → at + length bytes ≤ k → patch z at bytes k ≡ z k
unfolding patch
above_patch z at bytes k above =
    let low : nat_le at k ≡ true = grind (arith, nat_tests) in
    let high : nat_lt k (at + length bytes) ≡ false = grind (arith, nat_tests) in
    ap (λ b. cond (b && nat_lt k (at + length bytes)) (slice_index bytes (k - at)) (z k)) low ∙ ap (λ b. cond b (slice_index bytes (k - at)) (z k)) high

-- a sector is in a put, or before it, or behind it
pub put_cases : (lba : ℕ) (bytes : List ℕ) (q : ℕ) → InPut lba bytes q ⊎ ((q < lba) ⊎ (lba + length bytes / 512 ≤ q))
put_cases lba bytes q = elim (cases_lt q lba) [
  | inl below ↦ inr (inl below)
  | inr from ↦ elim (cases_lt q (lba + length bytes / 512)) [ inl until ↦ inl (record { from = from; until = until }) | inr above ↦ inr (inr above) ]
]

pub not_in : (lba : ℕ) (bytes : List ℕ) (q : ℕ) → (q < lba) ⊎ (lba + length bytes / 512 ≤ q) → InPut lba bytes q → ⊥
not_in lba bytes q (inl below) inside = omega (arith, below, inside.from)
not_in lba bytes q (inr above) inside = omega (arith, above, inside.until)

-- each sector outside a put is left
pub patched_out : (z : ℕ → ℕ) (lba : ℕ) (bytes : List ℕ) (q : ℕ) → length bytes % 512 ≡ 0 → (InPut lba bytes q → ⊥) → SameSector z (patch z (512 * lba) bytes) q
patched_out z lba bytes q whole out k lt = elim (put_cases lba bytes q) [
  | inl inside ↦ absurd (out inside)
  | inr (inl below) ↦ below_patch z (512 * lba) bytes (512 * q + k) (omega arith)
  | inr (inr above) ↦ above_patch z (512 * lba) bytes (512 * q + k) (omega arith)
]

-- each sector of a put is what was put
pub patched_in : (z w : ℕ → ℕ) (lba : ℕ) (bytes : List ℕ) (q : ℕ) → length bytes % 512 ≡ 0 → window w (512 * lba) (length bytes) ≡ bytes → InPut lba bytes q → SameSector (patch z (512 * lba) bytes) w q
unfolding patch
patched_in z w lba bytes q whole is inside k lt =
    let i = 512 * q + k - 512 * lba in
    let from = inside.from in
    let until = inside.until in
    let short : i < length bytes = omega (arith, from, until) in
    let here : 512 * lba + i ≡ 512 * q + k = omega (arith, from) in
    let low : nat_le (512 * lba) (512 * q + k) ≡ true = grind (arith, nat_tests, from) in
    let high : nat_lt (512 * q + k) (512 * lba + length bytes) ≡ true = grind (arith, nat_tests, short, here) in
    ap w (sym here) ∙ sym (get_or-window w (512 * lba) (length bytes) i 0 short) ∙ ap (λ (l : List ℕ). slice_index l i) is
    ∙ sym (ap (λ b. cond (b && nat_lt (512 * q + k) (512 * lba + length bytes)) (slice_index bytes i) (z (512 * q + k))) low ∙ ap (λ b. cond b (slice_index bytes i) (z (512 * q + k))) high)
