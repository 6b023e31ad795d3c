-- Runs of effects, one behind another.
use Rattle.std.proofs.Common.{◌≡◌, ℕ, zero, suc, ◌+◌, ◌<◌, List, [], ◌∷◌, ◌++◌, length, slice_get, refl, ◌∙◌, ap, arith}
use Rattle.cuts.specs.declared.effect.Effect.{Effect}
use Rattle.cuts.specs.States.{State, after, after_one, pending, pending_one}
use Rattle.cuts.specs.Orderly.{AreLawful, AreOrderly}

-- an element of the first of two lists
pub get_front : {X : Type 0} (xs ys : List X) (k : ℕ) → k < length xs → slice_get (xs ++ ys) k ≡ slice_get xs k
get_front [] ys k lt = absurd (omega arith)
get_front (x ∷ xs) ys zero lt = refl
get_front (x ∷ xs) ys (suc k) lt = get_front xs ys k (omega arith)

-- an element of the second
pub get_back : {X : Type 0} (xs ys : List X) (k : ℕ) → slice_get (xs ++ ys) (length xs + k) ≡ slice_get ys k
get_back [] ys k = let e : 0 + k ≡ k = omega arith in ap (λ (m : ℕ). slice_get ys m) e
get_back (x ∷ xs) ys k = let e : suc (length xs) + k ≡ suc (length xs + k) = omega arith in ap (λ (m : ℕ). slice_get ((x ∷ xs) ++ ys) m) e ∙ get_back xs ys k

pub after-append : (s : State) (xs ys : List Effect) → after s (xs ++ ys) ≡ after (after s xs) ys
after-append s [] ys = refl
after-append s (x ∷ xs) ys = after-append (after_one s x) xs ys

pub pending-append : (P : ℕ → Type 0) (xs ys : List Effect) → pending P (xs ++ ys) ≡ pending (pending P xs) ys
pending-append P [] ys = refl
pending-append P (x ∷ xs) ys = pending-append (pending_one P x) xs ys

-- a run of two parts is lawful, or orderly, exactly where both parts are

pub lawful_front : (size : ℕ) (s : State) (xs ys : List Effect) → AreLawful size s (xs ++ ys) → AreLawful size s xs
lawful_front size s [] ys lawful = tt
lawful_front size s (x ∷ xs) ys lawful = (lawful.0, lawful_front size (after_one s x) xs ys lawful.1)

pub lawful_back : (size : ℕ) (s : State) (xs ys : List Effect) → AreLawful size s (xs ++ ys) → AreLawful size (after s xs) ys
lawful_back size s [] ys lawful = lawful
lawful_back size s (x ∷ xs) ys lawful = lawful_back size (after_one s x) xs ys lawful.1

pub lawful_then : (size : ℕ) (s : State) (xs ys : List Effect) → AreLawful size s xs → AreLawful size (after s xs) ys → AreLawful size s (xs ++ ys)
lawful_then size s [] ys front back = back
lawful_then size s (x ∷ xs) ys front back = (front.0, lawful_then size (after_one s x) xs ys front.1 back)

pub orderly_front : (s : State) (U : ℕ → Type 0) (xs ys : List Effect) → AreOrderly s U (xs ++ ys) → AreOrderly s U xs
orderly_front s U [] ys orderly = tt
orderly_front s U (x ∷ xs) ys orderly = (orderly.0, orderly_front (after_one s x) (pending_one U x) xs ys orderly.1)

pub orderly_back : (s : State) (U : ℕ → Type 0) (xs ys : List Effect) → AreOrderly s U (xs ++ ys) → AreOrderly (after s xs) (pending U xs) ys
orderly_back s U [] ys orderly = orderly
orderly_back s U (x ∷ xs) ys orderly = orderly_back (after_one s x) (pending_one U x) xs ys orderly.1

pub orderly_then : (s : State) (U : ℕ → Type 0) (xs ys : List Effect) → AreOrderly s U xs → AreOrderly (after s xs) (pending U xs) ys → AreOrderly s U (xs ++ ys)
orderly_then s U [] ys front back = back
orderly_then s U (x ∷ xs) ys front back = (front.0, orderly_then (after_one s x) (pending_one U x) xs ys front.1 back)
