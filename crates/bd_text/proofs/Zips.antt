-- Two lists, place by place.
use Rattle.std.proofs.Common.{◌≡◌, ℕ, zero, suc, ◌<◌, List, [], ◌∷◌, ◌++◌, length, get_or, map, refl, ap, arith}
use Rattle.std.proofs.Common.{Bool, false}
use Rattle.std.specs.Borrow.{Bor}
use Rattle.std.specs.Fn.{CalledAt}
use Rattle.std.specs.Iterator.{Yields}
use Rattle.std.specs.List.{AllZip, slice_split}
use Rattle.std.specs.declared.slice.Split.{Split}
use Rattle.std.specs.Slice.Iter.{split_rest, split_done, split_callee, split_steps}
use Rattle.std.proofs.lemmas.Iterator.{YieldsList}
use Rattle.std.proofs.lemmas.Iterator.Consumers.{YieldsList-at}
use Rattle.std.proofs.lemmas.Iterator.Splits.{YieldsList-from_slice_split}
use denote.Param.Members.{Mut}

pub zip-length : {A B : Type 0} (R : A → B → Type 0) (xs : List A) (ys : List B) → AllZip R xs ys → length xs ≡ length ys
zip-length R [] [] each = refl
zip-length R [] (y ∷ ys) each = absurd each
zip-length R (x ∷ xs) [] each = absurd each
zip-length R (x ∷ xs) (y ∷ ys) each = ap suc (zip-length R xs ys each.1)

pub zip-push : {A B : Type 0} (R : A → B → Type 0) (xs : List A) (ys : List B) (x : A) (y : B) → AllZip R xs ys → R x y → AllZip R (xs ++ x ∷ []) (ys ++ y ∷ [])
zip-push R [] [] x y each last = (last, tt)
zip-push R [] (b ∷ bs) x y each last = absurd each
zip-push R (a ∷ xs) [] x y each last = absurd each
zip-push R (a ∷ xs) (b ∷ ys) x y each last = (each.0, zip-push R xs ys x y each.1 last)

pub zip-at : {A B : Type 0} (R : A → B → Type 0) (xs : List A) (ys : List B) (i : ℕ) (d : A) (e : B) → AllZip R xs ys → i < length ys → R (get_or xs i d) (get_or ys i e)
zip-at R [] [] i d e each inside = absurd (omega arith)
zip-at R [] (y ∷ ys) i d e each inside = absurd each
zip-at R (x ∷ xs) [] i d e each inside = absurd each
zip-at R (x ∷ xs) (y ∷ ys) zero d e each inside = each.0
zip-at R (x ∷ xs) (y ∷ ys) (suc i) d e each inside = zip-at R xs ys i d e each.1 (omega arith)

-- what each value at a part is
pub zip-left : {A B : Type 0} (R : A → B → Type 0) (P : A → Type 0) (xs : List A) (ys : List B) → ((x : A) (y : B) → R x y → P x) → AllZip R xs ys → (k : ℕ) (d : A) → k < length xs → P (get_or xs k d)
zip-left R P [] ys known each k d inside = absurd (omega arith)
zip-left R P (x ∷ xs) [] known each k d inside = absurd each
zip-left R P (x ∷ xs) (y ∷ ys) known each zero d inside = known x y each.0
zip-left R P (x ∷ xs) (y ∷ ys) known each (suc k) d inside = zip-left R P xs ys known each.1 k d (omega arith)

-- where each part spells one value at most, parts spell one list of values at most
pub zip-same : {A B : Type 0} (R : A → B → Type 0) (xs ys : List A) (zs : List B) → ((x y : A) (z : B) → R x z → R y z → x ≡ y) → AllZip R xs zs → AllZip R ys zs → xs ≡ ys
zip-same R [] [] zs one left right = refl
zip-same R [] (y ∷ ys) [] one left right = absurd right
zip-same R [] (y ∷ ys) (z ∷ zs) one left right = absurd left
zip-same R (x ∷ xs) [] [] one left right = absurd left
zip-same R (x ∷ xs) [] (z ∷ zs) one left right = absurd right
zip-same R (x ∷ xs) (y ∷ ys) [] one left right = absurd left
zip-same {A} R (x ∷ xs) (y ∷ ys) (z ∷ zs) one left right =
    let first = one x y z left.0 right.0 in
    let rest = zip-same R xs ys zs one left.1 right.1 in
    cc

-- what a function prints of each value spells it
pub zip-map : {A B : Type 0} (R : A → B → Type 0) (f : A → B) (xs : List A) → ((i : ℕ) (d : A) → i < length xs → R (get_or xs i d) (f (get_or xs i d))) → AllZip R xs (map f xs)
zip-map R f [] spells = tt
zip-map R f (x ∷ xs) spells = (spells 0 x (omega arith), zip-map R f xs (λ i d inside. spells (suc i) d (omega arith)))

-- what a `for` over the parts of a list goes over, where the closure is known by what was yielded
pub parts-yielded : {A F : Type 0} {g : Mut F (Bor A × Unit {0}) Bool} {s : Split A F} (t : Split A F) (yielded : List (Bor (List A))) (so_far : Yields (split_steps g) s yielded t) (p : A → Bool) {f : F} {from : Split A F} (xs : List A) → s ≡ from → split_rest from ≡ xs → split_done from ≡ false → split_callee from ≡ f → ((x : A) (b : Bool) (q : F) → CalledAt g f x b q → (q ≡ f) × (b ≡ p x)) → YieldsList (split_steps g) (λ x. x.now) s (slice_split p xs)
parts-yielded {g = g} t yielded so_far p xs same rest done callee tests = YieldsList-at same (YieldsList-from_slice_split g p xs rest done callee tests)
