-- A front of a file grows by what is read of it next.
use Rattle.std.proofs.Common.{◌≡◌, ◌≤◌, ℕ, ◌+◌, ◌-◌, min, zero, suc, refl, List, [], ◌∷◌, ◌++◌, length, take, drop, ap, sym, ◌∙◌, arith, length-append}
use Rattle.std.proofs.Math.Seq.{take-add}
use Rattle.std.proofs.lemmas.List.{length-take, length-take-le}
use Rattle.bd_dev.specs.Volumes.{IsPiece}

take_fewer : (n m : ℕ) (xs : List ℕ) → m ≤ n → take m (take n xs) ≡ take m xs
take_fewer n zero xs fewer = refl
take_fewer zero (suc m) xs fewer = absurd (omega (arith, fewer))
take_fewer (suc n) (suc m) [] fewer = refl
take_fewer (suc n) (suc m) (x ∷ xs) fewer = ap (λ (ys : List ℕ). x ∷ ys) (take_fewer n m xs (omega (arith, fewer)))

fewer_of : (file out : List ℕ) (n m : ℕ) → m ≤ n → take n out ≡ take n file → take m out ≡ take m file
fewer_of file out n m fewer same =
    sym (take_fewer n m out fewer) ∙ ap (λ (xs : List ℕ). take m xs) same ∙ take_fewer n m file fewer

pub front_more : (file body out new : List ℕ) (n m : ℕ) → body ≡ take (length body) file → n ≤ length out → m ≤ n
    → IsPiece file (length body) n out → new ≡ body ++ take m out → new ≡ take (length new) file
front_more file body out new n m front fits fewer piece grown =
    let small : m ≤ length out = omega (arith, fits, fewer) in
    let long : length new ≡ length body + m =
    ap (λ (xs : List ℕ). length xs) grown ∙ length-append body (take m out) ∙ ap (λ (k : ℕ). length body + k) (length-take-le m out small) in
    let taken : take m out ≡ take m (drop (length body) file) = fewer_of (drop (length body) file) out n m fewer piece.bytes in
    grown
    ∙ ap (λ (xs : List ℕ). body ++ xs) taken
    ∙ ap (λ (xs : List ℕ). xs ++ take m (drop (length body) file)) front
    ∙ sym (take-add (length body) m file)
    ∙ sym (ap (λ (k : ℕ). take k file) long)

-- and stays within the length that is wanted
pub grown_small : (body out new : List ℕ) (want n m : ℕ) → length body ≤ want → m ≡ min n (want - length body)
    → new ≡ body ++ take m out → length new ≤ want
grown_small body out new want n m small least grown =
    let long : length new ≡ length body + min m (length out) =
    ap (λ (xs : List ℕ). length xs) grown ∙ length-append body (take m out) ∙ ap (λ (k : ℕ). length body + k) (length-take m out) in
    omega (arith, small, least, long)
