-- Windows of a content, that is runs of its bytes.
use Rattle.std.proofs.Common.{◌≡◌, ℕ, zero, suc, ◌+◌, ◌-◌, ◌*◌, ◌/◌, ◌%◌, ◌<◌, ◌≤◌, List, ◌∷◌, ◌++◌, length, get_or, take, drop, refl, sym, ◌∙◌, ap, arith}
use Rattle.bd_dev.specs.Content.{window, SameSector}

pub length-window : (z : ℕ → ℕ) (at n : ℕ) → length (window z at n) ≡ n
unfolding window
length-window z at zero = refl
length-window z at (suc n) = ap suc (length-window z (suc at) n)

-- the bytes of a window
pub get_or-window : (z : ℕ → ℕ) (at n i d : ℕ) → i < n → get_or (window z at n) i d ≡ z (at + i)
unfolding window
get_or-window z at zero i d lt = absurd (omega arith)
get_or-window z at (suc n) zero d lt = ap z (omega arith)
get_or-window z at (suc n) (suc i) d lt = get_or-window z (suc at) n i d (omega arith) ∙ ap z (omega arith)

-- windows of contents that agree there
pub same_window : (z c : ℕ → ℕ) (at n : ℕ) → ((k : ℕ) → at ≤ k → k < at + n → c k ≡ z k) → window c at n ≡ window z at n
unfolding window
same_window z c at zero same = refl
same_window z c at (suc n) same = λ i. (same at (omega arith) (omega arith)) i ∷ (same_window z c (suc at) n (λ k le lt. same k (omega arith) (omega arith))) i

-- and the other way round
pub agrees_at : (z c : ℕ → ℕ) (at n : ℕ) → window c at n ≡ window z at n → (k : ℕ) → at ≤ k → k < at + n → c k ≡ z k
agrees_at z c at n same k le lt =
    let i = k - at in
    let here : at + i ≡ k = omega arith in
    ap c (sym here) ∙ sym (get_or-window c at n i 0 (omega arith)) ∙ ap (λ (l : List ℕ). get_or l i 0) same ∙ get_or-window z at n i 0 (omega arith) ∙ ap z here

pub window-append : (z : ℕ → ℕ) (at m n : ℕ) → window z at (m + n) ≡ window z at m ++ window z (at + m) n
unfolding window
window-append z at zero n = λ i. window z (let e : at ≡ at + 0 = omega arith in e i) (let f : 0 + n ≡ n = omega arith in f i)
window-append z at (suc m) n =
    let longer : suc m + n ≡ suc (m + n) = omega arith in
    let further : suc at + m ≡ at + suc m = omega arith in
    ap (λ (k : ℕ). window z at k) longer ∙ ap (λ (l : List ℕ). z at ∷ l) (window-append z (suc at) m n ∙ ap (λ (k : ℕ). window z (suc at) m ++ window z k n) further)

-- a byte in a sector on which two contents agree
pub at_byte : (z c : ℕ → ℕ) (k : ℕ) → SameSector z c (k / 512) → c k ≡ z k
at_byte z c k same =
    let here : 512 * (k / 512) + k % 512 ≡ k = omega arith in
    ap c (sym here) ∙ same (k % 512) (omega arith) ∙ ap z here

-- a window's front, and what is behind it
pub take-window : (z : ℕ → ℕ) (at n k : ℕ) → k ≤ n → take k (window z at n) ≡ window z at k
unfolding window
take-window z at n zero le = refl
take-window z at zero (suc k) le = absurd (omega arith)
take-window z at (suc n) (suc k) le = ap (λ (l : List ℕ). z at ∷ l) (take-window z (suc at) n k (omega arith))

pub drop-window : (z : ℕ → ℕ) (at k m : ℕ) → drop k (window z at (k + m)) ≡ window z (at + k) m
unfolding window
drop-window z at zero m =
    let here : at ≡ at + 0 = omega arith in
    let whole : 0 + m ≡ m = omega arith in
    ap (λ (n : ℕ). window z at n) whole ∙ ap (λ (a : ℕ). window z a m) here
drop-window z at (suc k) m =
    let longer : suc k + m ≡ suc (k + m) = omega arith in
    let further : suc at + k ≡ at + suc k = omega arith in
    ap (λ (n : ℕ). drop (suc k) (window z at n)) longer ∙ drop-window z (suc at) k m ∙ ap (λ (a : ℕ). window z a m) further
