-- The disk of the state that a board reads.
use Rattle.std.proofs.Common.{◌≡◌, inl, inr, ℕ, ◌+◌, ◌*◌, ◌/◌, ◌%◌, List, length, Bool, true, false, cond, ◌&&◌, ◌==◌, nat_le, nat_lt, refl, sym, ◌∙◌, ap, arith}
use Rattle.std.proofs.lemmas.Bool.{and_parts, eqb-true, leb-true, ltb-true, or_cases}
use Rattle.std.proofs.lemmas.Bool.Decides.{nat_tests}
use Rattle.bd_dev.specs.Content.{SameSector, window}
use Rattle.bd_dev.proofs.Windows.{at_byte}
use Rattle.storage_model.specs.Copies.{OffCopies}
use Rattle.cuts.specs.States.{InPut, is_off_copies, off_copies, patch}
use Rattle.cuts.proofs.Patches.{not_in, patched_in, patched_out, put_cases}

is_off : (size q : ℕ) → OffCopies size q → is_off_copies size q ≡ true
is_off size q (inl first) = grind (arith, nat_tests)
is_off size q (inr between) = let low = between.0 in let high = between.1 in grind (arith, nat_tests)

off_of : (size q : ℕ) → is_off_copies size q ≡ true → OffCopies size q
off_of size q test = elim (or_cases (q == 0) (nat_le 34 q && nat_lt (q + 33) size) test) [
  | inl first ↦ inl (eqb-true q 0 first)
  | inr between ↦
      let parts = and_parts (nat_le 34 q) (nat_lt (q + 33) size) between in
      inr (leb-true 34 q parts.0, ltb-true (q + 33) size parts.1)
]

-- off the copies it is what is read
pub read_off : (size : ℕ) (z : ℕ → ℕ) (q : ℕ) → OffCopies size q → SameSector z (off_copies size z) q
unfolding off_copies
read_off size z q off k lt =
    let sector : (512 * q + k) / 512 ≡ q = omega arith in
    ap (λ (b : Bool). cond b (z (512 * q + k)) 0) (ap (λ (s : ℕ). is_off_copies size s) sector ∙ is_off size q off)

-- so what an image has in common with the plant off the copies, it has in common with the state
pub image_off : (size : ℕ) (z c : ℕ → ℕ) (q : ℕ) → OffCopies size q → SameSector z c q → SameSector (off_copies size z) c q
image_off size z c q off same k lt = same k lt ∙ sym (read_off size z q off k lt)

-- the state's disk, by its sectors off the copies
by_sector : (size : ℕ) (z d : ℕ → ℕ) → ((q : ℕ) → OffCopies size q → SameSector d z q) → ((k : ℕ) → is_off_copies size (k / 512) ≡ false → d k ≡ 0) → off_copies size z ≡ d
unfolding off_copies
by_sector size z d off on = λ i k. (at k (is_off_copies size (k / 512)) refl) i
  where
    at : (k : ℕ) (b : Bool) → is_off_copies size (k / 512) ≡ b → off_copies size z k ≡ d k
    at k true test = ap (λ (b : Bool). cond b (z k) 0) test ∙ at_byte d z k (off (k / 512) (off_of size (k / 512) test))
    at k false test = ap (λ (b : Bool). cond b (z k) 0) test ∙ sym (on k test)

zero_on : (size : ℕ) (z : ℕ → ℕ) (k : ℕ) → is_off_copies size (k / 512) ≡ false → off_copies size z k ≡ 0
unfolding off_copies
zero_on size z k test = ap (λ (b : Bool). cond b (z k) 0) test

-- plants that agree off the copies read one state
pub same_off : (size : ℕ) (z w : ℕ → ℕ) → ((q : ℕ) → OffCopies size q → SameSector z w q) → off_copies size w ≡ off_copies size z
same_off size z w same = by_sector size w (off_copies size z) (λ q off. image_off size z w q off (same q off)) (zero_on size z)

-- after a put off the copies, the state's disk is the one before with these bytes put
pub put_off : (size : ℕ) (z w : ℕ → ℕ) (lba : ℕ) (bytes : List ℕ) → length bytes % 512 ≡ 0 → ((q : ℕ) → InPut lba bytes q → OffCopies size q)
    → ((q : ℕ) → (InPut lba bytes q → ⊥) → SameSector z w q) → window w (512 * lba) (length bytes) ≡ bytes → off_copies size w ≡ patch (off_copies size z) (512 * lba) bytes
put_off size z w lba bytes whole off out is = by_sector size w (patch (off_copies size z) (512 * lba) bytes) here there
  where
    here : (q : ℕ) → OffCopies size q → SameSector (patch (off_copies size z) (512 * lba) bytes) w q
    here q free k lt = elim (put_cases lba bytes q) [
      | inl inside ↦ patched_in (off_copies size z) w lba bytes q whole is inside k lt
      | inr outside ↦
          let not : InPut lba bytes q → ⊥ = not_in lba bytes q outside in
          image_off size z w q free (out q not) k lt ∙ sym (patched_out (off_copies size z) lba bytes q whole not k lt)
    ]

    there : (k : ℕ) → is_off_copies size (k / 512) ≡ false → patch (off_copies size z) (512 * lba) bytes k ≡ 0
    there k test =
        let not : InPut lba bytes (k / 512) → ⊥ = λ inside. let free = is_off size (k / 512) (off (k / 512) inside) in cc in
        at_byte (off_copies size z) (patch (off_copies size z) (512 * lba) bytes) k (patched_out (off_copies size z) lba bytes (k / 512) whole not) ∙ zero_on size z k test
