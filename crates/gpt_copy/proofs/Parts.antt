-- The parts of a list.
use Rattle.std.proofs.Common.{◌≡◌, ℕ, zero, suc, ◌+◌, ◌*◌, ◌<◌, List, [], ◌∷◌, length, get_or, set, take, drop, inl, inr, refl, sym, ◌∙◌, ap, arith}
use Rattle.std.proofs.lemmas.List.{same_lists, drop-drop, get_or-set_same, get_or-set_other}
use Rattle.std.proofs.lemmas.Bool.{cases_eq}
use Rattle.byteorder.specs.Endian.{little_number}
use Rattle.gpt_copy.specs.Entries.{parts}

pub length-parts : {X : Type 0} (size : ℕ) (f : List ℕ → X) (n : ℕ) (bytes : List ℕ) → length (parts size f n bytes) ≡ n
unfolding parts
length-parts size f zero bytes = refl
length-parts size f (suc n) bytes = ap suc (length-parts size f n (drop size bytes))

pub get_or-parts : {X : Type 0} (size : ℕ) (f : List ℕ → X) (n : ℕ) (bytes : List ℕ) (k : ℕ) (d : X) → k < n → get_or (parts size f n bytes) k d ≡ f (take size (drop (size * k) bytes))
unfolding parts
get_or-parts size f zero bytes k d lt = absurd (omega arith)
get_or-parts size f (suc n) bytes zero d lt = let none : 0 ≡ size * 0 = omega arith in ap (λ (at : ℕ). f (take size (drop at bytes))) none
get_or-parts size f (suc n) bytes (suc k) d lt =
    let at : size + size * k ≡ size * suc k = grind arith in
    get_or-parts size f n (drop size bytes) k d (omega arith) ∙ ap (λ (l : List ℕ). f (take size l)) (drop-drop (size * k) size bytes ∙ ap (λ (m : ℕ). drop m bytes) at)

pub are_parts : {X : Type 0} (size : ℕ) (f : List ℕ → X) (n : ℕ) (bytes : List ℕ) (xs : List X) → length xs ≡ n → ((k : ℕ) (d : X) → k < n → get_or xs k d ≡ f (take size (drop (size * k) bytes))) → xs ≡ parts size f n bytes
are_parts size f n bytes xs long each = same_lists xs (parts size f n bytes) (long ∙ sym (length-parts size f n bytes)) (λ k d lt. each k d (omega arith) ∙ sym (get_or-parts size f n bytes k d (omega arith)))

-- a number of two bytes is that of the first two
pub little_two : (bytes : List ℕ) → little_number 2 (take 2 bytes) ≡ little_number 2 bytes
little_two [] = refl
little_two (low ∷ []) = refl
little_two (low ∷ high ∷ bytes) = refl

-- one more element is set
pub set_more : {X : Type 0} (xs : List X) (k : ℕ) (v : X) (g : ℕ → X) → k < length xs → ((j : ℕ) (d : X) → j < k → get_or xs j d ≡ g j) → v ≡ g k → (j : ℕ) (d : X) → j < k + 1 → get_or (set xs k v) j d ≡ g j
set_more xs k v g lt so_far is j d below = elim (cases_eq j k) [
  | inl here ↦ ap (λ (m : ℕ). get_or (set xs k v) m d) here ∙ get_or-set_same xs k v d lt ∙ is ∙ ap g (sym here)
  | inr other ↦ get_or-set_other xs k j v d other ∙ so_far j d (omega arith)
]
