-- Which of several times comes first, with one time more.
use Rattle.std.proofs.Common.{◌≡◌, ◌<◌, ◌≤◌, ◌+◌, ◌⊎◌, inl, inr, ℕ, Bool, true, false, List, length, map, Option, Some, None, refl, sym, ap, ◌∙◌, arith}
use Rattle.std.specs.Prelude.{slice_get, nat_lt, ◌==◌, ◌&&◌, ◌||◌, if◌then◌else◌}
use Rattle.std.specs.Option.{option_map}
use Rattle.std.proofs.lemmas.Bool.Decides.{nat_tests}
use Rattle.std.proofs.lemmas.Option.{slice_get-map, slice_get_within}
use Rattle.arrival_player.specs.declared.flows.Flow.{Flow}
use Rattle.arrival_player.specs.Earliest.{FirstBelow, IsFirst, Precedes, next_time_of, sooner_of}
use Rattle.arrival_player.specs.Flows.{AreClosed}

split : (k n : ℕ) → k < n + 1 → (k < n) ⊎ (k ≡ n)
split k n lt = grind arith

same_time : (times : List (Option ℕ)) (k n t time : ℕ) → slice_get times n ≡ Some (Some time) → k ≡ n → slice_get times k ≡ Some (Some t) → t ≡ time
same_time times k n t time here same there = let e = ap (slice_get times) same in cc (here, there, e)

no_time : (times : List (Option ℕ)) (k n t : ℕ) → slice_get times n ≡ Some None → k ≡ n → slice_get times k ≡ Some (Some t) → ⊥
no_time times k n t here same there = let e = ap (slice_get times) same in cc (here, there, e)

earlier : (late : Bool) (number k : ℕ) → late ≡ false → number ≤ k → Precedes late number k
earlier true number k e le = absurd (cc e)
earlier false number k e le = le

same_place : (late : Bool) (number k : ℕ) → k ≡ number → Precedes late number k
same_place true number k e = omega (arith, e)
same_place false number k e = omega (arith, e)

later : (late : Bool) (number k : ℕ) → late ≡ true → k ≤ number → Precedes late number k
later true number k e le = le
later false number k e le = absurd (cc e)

-- a flow more, to which nothing comes
first_none : (late : Bool) (until : ℕ) (times : List (Option ℕ)) (n : ℕ) (best : Option (ℕ × ℕ)) → slice_get times n ≡ Some None → FirstBelow late until times n best → FirstBelow late until times (n + 1) best
first_none late until times n None here below = λ k t lt e. elim (split k n lt) [ inl less ↦ below k t less e | inr same ↦ absurd (no_time times k n t here same e) ]
first_none late until times n (Some best) here below = record {
  within = omega (arith, below.within);
  here = below.here;
  early = below.early;
  least = λ k t lt e. elim (split k n lt) [ inl less ↦ below.least k t less e | inr same ↦ absurd (no_time times k n t here same e) ];
  tie = λ k lt e. elim (split k n lt) [ inl less ↦ below.tie k less e | inr same ↦ absurd (no_time times k n best.1 here same e) ];
}

-- a flow more, whose time comes first
first_new : (late : Bool) (until : ℕ) (times : List (Option ℕ)) (n time : ℕ) → slice_get times n ≡ Some (Some time) → time < until → ((k t : ℕ) → k < n → slice_get times k ≡ Some (Some t) → time ≤ t) → ((k : ℕ) → k < n → slice_get times k ≡ Some (Some time) → Precedes late n k) → IsFirst late until times (n + 1) n time
first_new late until times n time here early least tie = record {
  within = omega arith;
  here = here;
  early = early;
  least = λ k t lt e. elim (split k n lt) [ inl less ↦ least k t less e | inr same ↦ (let is = same_time times k n t time here same e in omega (arith, is)) ];
  tie = λ k lt e. elim (split k n lt) [ inl less ↦ tie k less e | inr same ↦ same_place late n k same ];
}

-- a flow more, whose time doesn't come first
first_old : (late : Bool) (until : ℕ) (times : List (Option ℕ)) (n time : ℕ) (best : ℕ × ℕ) → slice_get times n ≡ Some (Some time) → best.1 ≤ time → (best.1 ≡ time → late ≡ false) → IsFirst late until times n best.0 best.1 → IsFirst late until times (n + 1) best.0 best.1
first_old late until times n time best here le keeps below = record {
  within = omega (arith, below.within);
  here = below.here;
  early = below.early;
  least = λ k t lt e. elim (split k n lt) [ inl less ↦ below.least k t less e | inr same ↦ (let is = same_time times k n t time here same e in omega (arith, is, le)) ];
  tie = λ k lt e. elim (split k n lt) [
    | inl less ↦ below.tie k less e
    | inr same ↦ (let is = same_time times k n best.1 time here same e in let w = below.within in earlier late best.0 k (keeps is) (omega (arith, same, w)))
  ];
}

pub first_more : (late : Bool) (until : ℕ) (times : List (Option ℕ)) (n : ℕ) (best : Option (ℕ × ℕ)) (time : Option ℕ) → slice_get times n ≡ Some time → FirstBelow late until times n best → FirstBelow late until times (n + 1) (sooner_of best late until n time)
first_more late until times n best None here below = first_none late until times n best here below
first_more late until times n None (Some time) here below = by_test (nat_lt time until) refl
  where
    by_test : (b : Bool) → nat_lt time until ≡ b → FirstBelow late until times (n + 1) (if b then Some (n, time) else None)
    by_test true t = let lt : time < until = grind (arith, nat_tests) in
        first_new late until times n time here lt (λ k u less e. (let le = below k u less e in omega (arith, le, lt))) (λ k less e. absurd (let le = below k time less e in omega (arith, le, lt)))
    by_test false t = let le : until ≤ time = grind (arith, nat_tests) in
        λ k u lt e. elim (split k n lt) [ inl less ↦ below k u less e | inr same ↦ (let is = same_time times k n u time here same e in omega (arith, is, le)) ]
first_more late until times n (Some best) (Some time) here below = by_test (nat_lt time best.1) refl late refl
  where
    by_equal : (b : Bool) → (time == best.1) ≡ b → (l : Bool) → late ≡ l → best.1 ≤ time → FirstBelow late until times (n + 1) (if l && b then Some (n, time) else Some best)
    by_equal true q true e le = let same : time ≡ best.1 = grind (arith, nat_tests) in let early = below.early in
        first_new late until times n time here (omega (arith, same, early)) (λ k u less h. (let ge = below.least k u less h in omega (arith, ge, same))) (λ k less h. later late n k e (omega (arith, less)))
    by_equal true q false e le = first_old late until times n time best here le (λ same. e) below
    by_equal false q true e le = let ne : ¬ (time ≡ best.1) = (λ same. absurd (grind (arith, nat_tests))) in first_old late until times n time best here le (λ same. absurd (ne (sym same))) below
    by_equal false q false e le = first_old late until times n time best here le (λ same. e) below

    by_test : (b : Bool) → nat_lt time best.1 ≡ b → (l : Bool) → late ≡ l → FirstBelow late until times (n + 1) (if b || (l && (time == best.1)) then Some (n, time) else Some best)
    by_test true t l e = let lt : time < best.1 = grind (arith, nat_tests) in let early = below.early in
        first_new late until times n time here (omega (arith, lt, early)) (λ k u less h. (let ge = below.least k u less h in omega (arith, ge, lt))) (λ k less h. absurd (let ge = below.least k time less h in omega (arith, ge, lt)))
    by_test false t l e = let le : best.1 ≤ time = grind (arith, nat_tests) in by_equal (time == best.1) refl l e le

-- nothing comes to closed flows
pub first_closed : (late : Bool) (until : ℕ) (flows : List (Option Flow)) (n : ℕ) → AreClosed flows n → FirstBelow late until (map next_time_of flows) n None
first_closed late until flows n closed = λ k t lt e.
    absurd (no_time (map next_time_of flows) k k t (slice_get-map next_time_of flows k ∙ ap (option_map next_time_of) (closed k lt)) refl e)

-- all times were looked at
pub first_all : (late : Bool) (until : ℕ) (times : List (Option ℕ)) (n m : ℕ) (best : Option (ℕ × ℕ)) → length times ≡ m → m ≤ n → FirstBelow late until times n best → FirstBelow late until times m best
first_all late until times n m None long le below = λ k t lt e. below k t (omega (arith, lt, le)) e
first_all late until times n m (Some best) long le below = record {
  within = (let lt = slice_get_within times best.0 (Some best.1) below.here in omega (arith, lt, long));
  here = below.here;
  early = below.early;
  least = λ k t lt e. below.least k t (omega (arith, lt, le)) e;
  tie = λ k lt e. below.tie k (omega (arith, lt, le)) e;
}
