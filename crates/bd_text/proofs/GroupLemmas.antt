-- The groups of an IPv6 address, and its bytes.
use Rattle.std.proofs.Common.{◌≡◌, ℕ, zero, suc, ◌+◌, ◌-◌, ◌*◌, ◌<◌, ◌≤◌, List, [], ◌∷◌, ◌++◌, length, get_or, take, drop, replicate, refl, sym, ap, ◌∙◌, arith, append_assoc, length-append, length-drop, length-take-le, get_or-drop, get_or-take, take-append-drop}
use Rattle.std.specs.Prelude.{flat_map}
use Rattle.std.proofs.Math.Nat.{mod-lt}
use Rattle.std.proofs.lemmas.List.{append-nil, drop-drop, ext_get_or, get_or-replicate, drop_all, drop_at, drop-replicate, length-replicate, replicate-append-replicate, take_at}
use Rattle.byteorder.specs.Endian.{big_bytes, big_number}
use Rattle.bd_text.specs.V6.{IsZeroRun, v6_groups}
use Rattle.bd_text.proofs.ByteLemmas.{AreSmall}

pub length-v6_groups : (n : ℕ) (bytes : List ℕ) → length bytes ≡ 2 * n → length (v6_groups bytes) ≡ n
length-v6_groups zero [] size = refl
length-v6_groups zero (a ∷ bytes) size = absurd (omega arith)
length-v6_groups (suc n) [] size = absurd (omega arith)
length-v6_groups (suc n) (a ∷ []) size = absurd (omega arith)
length-v6_groups (suc n) (a ∷ b ∷ bytes) size = ap suc (length-v6_groups n bytes (omega arith))

pub v6_groups-at : (bytes : List ℕ) (k : ℕ) → k < length (v6_groups bytes) → get_or (v6_groups bytes) k 0 ≡ big_number 2 (drop (2 * k) bytes)
v6_groups-at [] k inside = absurd (omega arith)
v6_groups-at (a ∷ []) k inside = absurd (omega arith)
v6_groups-at (a ∷ b ∷ bytes) zero inside = omega arith
v6_groups-at (a ∷ b ∷ bytes) (suc k) inside =
    let two : 2 * suc k ≡ suc (suc (2 * k)) = omega arith in
    rw two (v6_groups-at bytes k (omega arith))

-- bytes with the same groups are the same
pub v6_groups-same : (n : ℕ) (xs ys : List ℕ) → length xs ≡ 2 * n → length ys ≡ 2 * n → AreSmall xs → AreSmall ys → v6_groups xs ≡ v6_groups ys → xs ≡ ys
v6_groups-same zero [] [] left right small_xs small_ys same = refl
v6_groups-same zero [] (y ∷ ys) left right small_xs small_ys same = absurd (omega arith)
v6_groups-same zero (x ∷ xs) ys left right small_xs small_ys same = absurd (omega arith)
v6_groups-same (suc n) [] ys left right small_xs small_ys same = absurd (omega arith)
v6_groups-same (suc n) (x ∷ []) ys left right small_xs small_ys same = absurd (omega arith)
v6_groups-same (suc n) (x ∷ w ∷ xs) [] left right small_xs small_ys same = absurd (omega arith)
v6_groups-same (suc n) (x ∷ w ∷ xs) (y ∷ []) left right small_xs small_ys same = absurd (omega arith)
v6_groups-same (suc n) (x ∷ w ∷ xs) (y ∷ z ∷ ys) left right small_xs small_ys same =
    let head : x * 256 + w ≡ y * 256 + z = ap (λ (l : List ℕ). get_or l 0 0) same in
    let rest : v6_groups xs ≡ v6_groups ys = ap (drop 1) same in
    let low_w = small_xs 1 in
    let low_z = small_ys 1 in
    let first : x ≡ y = omega arith in
    let second : w ≡ z = omega arith in
    let more = v6_groups-same n xs ys (omega arith) (omega arith) (λ i. small_xs (suc (suc i))) (λ i. small_ys (suc (suc i))) rest in
    cc

-- the bytes of groups
pub length-written : (groups : List ℕ) → length (flat_map (big_bytes 2) groups) ≡ 2 * length groups
length-written [] = refl
length-written (g ∷ groups) = omega (arith, length-written groups)

pub small-written : (groups : List ℕ) → AreSmall (flat_map (big_bytes 2) groups)
small-written [] i = omega arith
small-written (g ∷ groups) zero = mod-lt _ (omega arith)
small-written (g ∷ groups) (suc zero) = mod-lt g (omega arith)
small-written (g ∷ groups) (suc (suc i)) = small-written groups i

pub v6_groups-written : (groups : List ℕ) → ((i : ℕ) → get_or groups i 0 < 65536) → v6_groups (flat_map (big_bytes 2) groups) ≡ groups
v6_groups-written [] fit = refl
v6_groups-written (g ∷ groups) fit =
    let rest = v6_groups-written groups (λ i. fit (suc i)) in
    let low = fit 0 in
    let head : get_or (v6_groups (flat_map (big_bytes 2) (g ∷ groups))) 0 0 ≡ g = omega arith in
    cc

-- zeros between two lists in an array of eight
pub filled-is : (before after : List ℕ) → length before + length after ≤ 7 → take (8 - length after) (before ++ drop (length before) (replicate 8 0)) ++ (after ++ drop (8 - (8 - length after)) (drop (8 - length after) (before ++ drop (length before) (replicate 8 0)))) ≡ before ++ (replicate (8 - (length before + length after)) 0 ++ after)
filled-is before after few =
    let n = length before in
    let m = length after in
    let zeros : List ℕ = replicate (8 - (length before + length after)) 0 in
    let count : 8 - length before ≡ (8 - (length before + length after)) + length after = omega arith in
    let rest : drop (length before) (replicate {A = ℕ} 8 0) ≡ zeros ++ replicate (length after) 0 =
    drop-replicate {X = ℕ} (length before) 8 0 ∙ ap (λ (k : ℕ). replicate {A = ℕ} k 0) count ∙ sym (replicate-append-replicate {A = ℕ} (8 - (length before + length after)) (length after) 0) in
    let front = before ++ zeros in
    let size : length front ≡ 8 - length after = length-append before zeros ∙ omega (arith, length-replicate {A = ℕ} (8 - (length before + length after)) 0) in
    let whole : before ++ drop (length before) (replicate {A = ℕ} 8 0) ≡ front ++ replicate (length after) 0 = ap (λ (t : List ℕ). before ++ t) rest ∙ sym (append_assoc before zeros (replicate (length after) 0)) in
    let taken = take_at front (replicate {A = ℕ} (length after) 0) (8 - length after) size in
    let dropped = drop_at front (replicate {A = ℕ} (length after) 0) (8 - length after) size in
    let none : drop (8 - (8 - length after)) (replicate {A = ℕ} (length after) 0) ≡ [] = drop_all (8 - (8 - length after)) (replicate {A = ℕ} (length after) 0) (omega (arith, length-replicate {A = ℕ} (length after) 0)) in
    rw (whole, taken, dropped, none, append-nil) (append_assoc before zeros after)

-- zero groups that stand in a row, between those before and those after them
pub zeros-between : (groups : List ℕ) (start count : ℕ) → IsZeroRun groups start count → groups ≡ take start groups ++ (replicate count 0 ++ drop (start + count) groups)
zeros-between groups start count run =
    let inside = run.inside in
    let zeros : take count (drop start groups) ≡ replicate count 0 =
    ext_get_or 0 (take count (drop start groups)) (replicate count 0)
    (length-take-le count (drop start groups) (omega (arith, length-drop start groups)) ∙ sym (length-replicate {A = ℕ} count 0))
    (λ k below.
    let short : k < count = omega (arith, length-take-le count (drop start groups) (omega (arith, length-drop start groups))) in
    get_or-take count (drop start groups) k 0 short ∙ get_or-drop start groups k 0 ∙ run.zeros (start + k) (omega arith) (omega arith) ∙ sym (get_or-replicate {A = ℕ} count k 0 0 short)) in
    let rest : drop start groups ≡ replicate count 0 ++ drop (start + count) groups =
    sym (take-append-drop count (drop start groups)) ∙ rw (zeros, drop-drop) refl in
    sym (take-append-drop start groups) ∙ ap (λ (t : List ℕ). take start groups ++ t) rest

pub filled-size : (before after : List ℕ) → length before + length after ≤ 7 → length (before ++ (replicate (8 - (length before + length after)) 0 ++ after)) ≡ 8
filled-size before after few = simp (length-append, length-replicate) (omega arith)
