-- A journal with one more effect: the sectors that are put, and the room that is left.
use Rattle.std.proofs.Common.{◌≡◌, ℕ, ◌+◌, ◌-◌, ◌≤◌, ◌<◌, ◌^◌, min, List, [], ◌∷◌, ◌++◌, length, Some, sym, ◌∙◌, ap, subst, arith}
use Rattle.std.specs.Prelude.{slice_get}
use Rattle.std.proofs.lemmas.List.{length-append}
use Rattle.std.proofs.lemmas.Option.{slice_get_within}
use Rattle.cuts.specs.declared.effect.Effect.{Effect}
use Rattle.bd_dev.proofs.Places.{slice_get-push_same}
use Rattle.cuts.proofs.Runs.{get_front}
use Rattle.board.specs.Journal.{HasRoom, sectors_of, sum_of, total_of}

sum_more : (xs : List Effect) (x : Effect) → sum_of (xs ++ x ∷ []) ≡ sum_of xs + sectors_of x
sum_more [] x = omega arith
sum_more (y ∷ ys) x =
    let more : sum_of (ys ++ x ∷ []) ≡ sum_of ys + sectors_of x = sum_more ys x in
    omega arith

-- an effect that puts no sectors
pub total_same : (xs : List Effect) (x : Effect) → sectors_of x ≡ 0 → total_of (xs ++ x ∷ []) ≡ total_of xs
total_same xs x none = ap (λ (n : ℕ). min n (2 ^ 64 - 1)) (sum_more xs x ∙ (let n = sum_of xs in let is : sum_of xs + sectors_of x ≡ sum_of xs = omega (arith, none) in is))

-- an effect that puts some
pub total_more : (xs : List Effect) (x : Effect) → total_of (xs ++ x ∷ []) ≡ min (total_of xs + sectors_of x) (2 ^ 64 - 1)
total_more xs x =
    let is : sum_of (xs ++ x ∷ []) ≡ sum_of xs + sectors_of x = sum_more xs x in
    ap (λ (n : ℕ). min n (2 ^ 64 - 1)) is ∙ (let same : min (sum_of xs + sectors_of x) (2 ^ 64 - 1) ≡ min (min (sum_of xs) (2 ^ 64 - 1) + sectors_of x) (2 ^ 64 - 1) = omega arith in same)

-- a text was taken, and an effect was noted
pub room_taken : (cap cap' n n' : ℕ) (texts left : List (List ℕ)) (text : List ℕ) → HasRoom cap n texts → texts ≡ left ++ text ∷ [] → cap ≤ cap' → n' ≤ n + 1 → HasRoom cap' n' left
room_taken cap cap' n n' texts left text has is wider more = record {
  room =
      let was : n + length texts ≤ cap = has.room in
      let long : length texts ≡ length left + 1 = ap length is ∙ length-append left (text ∷ []) in
      omega arith;
  long = λ i t at. has.long i t (subst (λ (l : List (List ℕ)). slice_get l i ≡ Some t) (sym is) (get_front left (text ∷ []) i (slice_get_within left i t at) ∙ at));
}

-- the text that was taken has room for any text of variables
pub long_taken : (cap n : ℕ) (texts left : List (List ℕ)) (text : List ℕ) → HasRoom cap n texts → texts ≡ left ++ text ∷ [] → length text ≡ 8180
long_taken cap n texts left text has is = has.long (length left) text (subst (λ (l : List (List ℕ)). slice_get l (length left) ≡ Some text) (sym is) (slice_get-push_same left text))

-- no text is set aside
pub room_none : (cap n : ℕ) (left : List (List ℕ)) → length left ≡ 0 → n ≤ cap → HasRoom cap n left
room_none cap n left none fits = record {
  room = omega (arith, none, fits);
  long = λ i t at. let lt : i < length left = slice_get_within left i t at in absurd (omega (arith, lt, none));
}

-- room was made for one more beside the texts
pub room_made : (cap n n' : ℕ) (texts left : List (List ℕ)) → HasRoom cap n texts → left ≡ texts → (cap' : ℕ) → n' + length texts ≤ cap' → HasRoom cap' n' left
room_made cap n n' texts left has is cap' fits = subst (λ (l : List (List ℕ)). HasRoom cap' n' l) (sym is) (record { room = fits; long = has.long })
