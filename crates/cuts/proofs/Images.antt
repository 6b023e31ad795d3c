-- Whether a partition holds ONIE's image depends on its first sector alone.
use Rattle.std.proofs.Common.{◌≡◌, ℕ, ◌+◌, ◌-◌, ◌*◌, ◌<◌, ◌≤◌, List, IsTrue, sym, ◌∙◌, ap, arith}
use Rattle.bd_dev.specs.Content.{SameSector, window}
use Rattle.bd_dev.proofs.Windows.{same_window}
use Rattle.gpt_copy.specs.declared.table.Entry.{Entry}
use Rattle.storage_model.specs.Image.{has_image, is_image_head}
use Rattle.cuts.specs.Orderly.{IsPlacedAs}

-- the bytes of a sector on which two contents agree
pub same_bytes : (z c : ℕ → ℕ) (q : ℕ) → SameSector z c q → window c (512 * q) 512 ≡ window z (512 * q) 512
same_bytes z c q same = same_window z c (512 * q) 512 at
  where
    at : (k : ℕ) → 512 * q ≤ k → k < 512 * q + 512 → c k ≡ z k
    at k le lt =
        let here : 512 * q + (k - 512 * q) ≡ k = omega arith in
        ap c (sym here) ∙ same (k - 512 * q) (omega arith) ∙ ap z here

pub image_kept : (z c : ℕ → ℕ) (e : Entry) → SameSector z c e.first → IsTrue (has_image z e) → IsTrue (has_image c e)
image_kept z c e same image = ap (λ (sector : List ℕ). is_image_head sector (512 * (e.last - e.first))) (same_bytes z c e.first same) ∙ image

pub image_placed : (z : ℕ → ℕ) (e f : Entry) → IsPlacedAs e f → IsTrue (has_image z e) → IsTrue (has_image z f)
image_placed z e f placed image = (λ i. is_image_head (window z (512 * placed.first i) 512) (512 * (placed.last i - placed.first i))) ∙ image
