-- Fetches of a list of candidates, one after the other.
use Rattle.std.proofs.Common.{◌≡◌, ◌⊎◌, inl, inr, ℕ, zero, suc, ◌+◌, ◌<◌, Bool, false, cond, List, [], ◌∷◌, ◌++◌, length, get_or, take, drop, refl, sym, ap, subst, ◌∙◌, arith, add-one, drop-cons}
use Rattle.std.specs.Prelude.{map}
use Rattle.std.proofs.lemmas.Grind.{take_at_read}
use Rattle.std.proofs.lemmas.List.Sums.{sum_by-cons}
use Rattle.find_fetch.specs.Fetching.{Asked, is_local, needs}
use Rattle.url_waterfall.specs.declared.candidate.Candidate.{Candidate}
use Rattle.onie_modes.specs.Asking.{EndsAmong, asked_all, needs_all}

asked_append : (xs ys : List Candidate) → asked_all (xs ++ ys) ≡ asked_all xs ++ asked_all ys
asked_append [] ys = refl
asked_append (x ∷ xs) ys = ap (λ (l : List Asked). record { round = 1; candidate = x } ∷ l) (asked_append xs ys)

pub asked_take : (n : ℕ) (xs : List Candidate) → take n (asked_all xs) ≡ asked_all (take n xs)
asked_take zero xs = refl
asked_take (suc n) [] = refl
asked_take (suc n) (x ∷ xs) = ap (λ (l : List Asked). record { round = 1; candidate = x } ∷ l) (asked_take n xs)

-- one more is asked for
asked_more : (list : List Candidate) (i : ℕ) (c : Candidate) → i < length list → c ≡ get_or list i c → asked_all (take (i + 1) list) ≡ asked_all (take i list) ++ asked_all (c ∷ [])
asked_more list i c lt is =
    ap asked_all ((take_at_read list i c lt).1 ∙ ap (λ (d : Candidate). take i list ++ d ∷ []) (sym is)) ∙ asked_append (take i list) (c ∷ [])

pub made_more : {F : Type 0} (Made : F → List Asked → F → Type 0) (f g h : F) (list : List Candidate) (i : ℕ) (c : Candidate)
    → ((xs ys : List Asked) → Made f xs g → Made g ys h → Made f (xs ++ ys) h) → i < length list → c ≡ get_or list i c
    → Made f (asked_all (take i list)) g → Made g (asked_all (c ∷ [])) h → Made f (asked_all (take (i + 1) list)) h
made_more Made f g h list i c join lt is before one =
    subst (λ (xs : List Asked). Made f xs h) (sym (asked_more list i c lt is)) (join (asked_all (take i list)) (asked_all (c ∷ [])) before one)

pub ended : {F : Type 0} (Made Broken : F → List Asked → F → Type 0) (f g h : F) (list : List Candidate) (i : ℕ) (c : Candidate)
    → ((xs ys : List Asked) → Made f xs g → Made g ys h → Made f (xs ++ ys) h)
    → ((xs ys : List Asked) → Made f xs g → Broken g ys h → Broken f (xs ++ ys) h)
    → i < length list → c ≡ get_or list i c → Made f (asked_all (take i list)) g
    → Made g (asked_all (c ∷ [])) h ⊎ Broken g (asked_all (c ∷ [])) h → EndsAmong Made Broken f (asked_all list) h
ended Made Broken f g h list i c join breaks lt is before (inl one) = record {
  count = i + 1;
  ends = inl (subst (λ (xs : List Asked). Made f xs h) (sym (asked_take (i + 1) list)) (made_more Made f g h list i c join lt is before one));
}
ended Made Broken f g h list i c join breaks lt is before (inr one) = record {
  count = i + 1;
  ends = inr (subst (λ (xs : List Asked). Broken f xs h) (sym (asked_take (i + 1) list ∙ asked_more list i c lt is)) (breaks (asked_all (take i list)) (asked_all (c ∷ [])) before one));
}

-- ---- how many are left

pub needs_cons : (c : Candidate) (cs : List Candidate) → needs_all (c ∷ cs) ≡ needs c + needs_all cs
needs_cons c cs = sum_by-cons (λ n. n) (needs c) (map needs cs)

needs_step : (list : List Candidate) (i : ℕ) (c : Candidate) → i < length list → c ≡ get_or list i c → needs_all (drop i list) ≡ needs c + needs_all (drop (i + 1) list)
needs_step list i c lt is =
    let behind : drop i list ≡ c ∷ drop (i + 1) list = rw add-one (drop-cons list i c lt) ∙ ap (λ (d : Candidate). d ∷ drop (i + 1) list) (sym is) in
    ap needs_all behind ∙ needs_cons c (drop (i + 1) list)

fewer_many : (Left : ℕ → Type 0) → ((n : ℕ) → Left (n + 1) → Left n) → (m n : ℕ) → Left (n + m) → Left n
fewer_many Left fewer zero n h = subst Left (let e : n + zero ≡ n = omega arith in e) h
fewer_many Left fewer (suc m) n h = fewer n (fewer_many Left fewer m (n + 1) (subst Left (let e : n + suc m ≡ (n + 1) + m = omega arith in e) h))

-- one is left for the next candidate
pub left_for : (Left : ℕ → Type 0) (list : List Candidate) (i : ℕ) (c : Candidate) → ((n : ℕ) → Left (n + 1) → Left n) → i < length list → c ≡ get_or list i c
    → Left (needs_all (drop i list)) → is_local c ≡ false → Left 1
left_for Left list i c fewer lt is h other =
    let one : needs c ≡ 1 = ap (λ (b : Bool). cond b 0 1) other in
    fewer_many Left fewer (needs_all (drop (i + 1) list)) 1
    (subst Left (needs_step list i c lt is ∙ ap (λ (n : ℕ). n + needs_all (drop (i + 1) list)) one) h)

-- and those for the rest
pub left_after : (Left : ℕ → Type 0) (list : List Candidate) (i : ℕ) (c : Candidate) → i < length list → c ≡ get_or list i c
    → Left (needs_all (drop i list)) → Left (needs_all (drop (i + 1) list) + needs c)
left_after Left list i c lt is h =
    let step = needs_step list i c lt is in
    subst Left (let e : needs_all (drop i list) ≡ needs_all (drop (i + 1) list) + needs c = omega (arith, step) in e) h
