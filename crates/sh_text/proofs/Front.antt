-- Where a run, a gap or a join ends, and numbers of many digits.
use Rattle.std.proofs.Common.{◌≡◌, ◌≢◌, ℕ, ◌+◌, ◌-◌, ◌*◌, ◌≤◌, min, Bool, true, false, not, ◌||◌, ◌&&◌, ◌==◌, refl, sym, ◌∙◌, ap, subst, List, [], ◌∷◌, ◌++◌, if◌then◌else◌, arith, ◌⊎◌, inl, inr}
use Rattle.std.proofs.lemmas.Bool.Decides.{nat_tests}
use Rattle.std.proofs.lemmas.Bool.{eqb-true, cases_lt}
use Rattle.sh_text.specs.declared.Class.{Class}
use Rattle.sh_text.specs.declared.Class.TheVariants.{Digits}
use Rattle.sh_text.specs.Front.{Text, begins_join, joined, gap, comment, after_backslash, is_blank, is_in, is_digit, past, past_backslash, run, run_backslash, decimal}

eq_false : (c k : ℕ) → c ≢ k → (c == k) ≡ false
eq_false c k n = grind (arith, nat_tests)

-- a choice whose first side is the second one, where it is taken
same_sides : {A : Type 0} (b : Bool) (x y : A) → (b ≡ true → x ≡ y) → (if b then x else y) ≡ y
same_sides true x y h = h refl
same_sides false x y h = refl

-- behind a `\` there is no line end
no_line_end : (c d : ℕ) → ((c == 92) && (d == 10)) ≡ false → (c == 92) ≡ true → (d == 10) ≡ false
no_line_end c d j e = rw e at j

pub joined_stays : (t : Text) → begins_join t ≡ false → joined t ≡ t
unfolding joined begins_join
joined_stays [] j = refl
joined_stays (c ∷ []) j = refl
joined_stays (c ∷ d ∷ t) j = rw j

pub gap_stays : (over : Bool) (c : ℕ) (t u : Text) → u ≡ c ∷ t → (is_blank c || (over && (c == 10))) ≡ false → c ≢ 35 → begins_join u ≡ false → gap over u ≡ u
unfolding gap begins_join
gap_stays over c t u e b n j = subst (λ (u : Text). gap over u ≡ u) (sym e) (at t (subst (λ (u : Text). begins_join u ≡ false) e j))
  where
    at : (t : Text) → begins_join (c ∷ t) ≡ false → gap over (c ∷ t) ≡ c ∷ t
    at [] j = rw (b, eq_false c 35 n) (same_sides (c == 92) (92 ∷ []) (c ∷ []) (λ q. ap (λ x. x ∷ []) (sym (eqb-true c 92 q))))
    at (d ∷ t) j = rw (b, eq_false c 35 n) (same_sides (c == 92) (if d == 10 then gap over t else 92 ∷ d ∷ t) (c ∷ d ∷ t) (λ q. rw (no_line_end c d j q) (ap (λ x. x ∷ d ∷ t) (sym (eqb-true c 92 q)))))

pub past_stays : (k : Class) (c : ℕ) (t u : Text) → u ≡ c ∷ t → is_in k c ≡ false → begins_join u ≡ false → past k u ≡ u
unfolding past begins_join
past_stays k c t u e b j = subst (λ (u : Text). past k u ≡ u) (sym e) (at t (subst (λ (u : Text). begins_join u ≡ false) e j))
  where
    at : (t : Text) → begins_join (c ∷ t) ≡ false → past k (c ∷ t) ≡ c ∷ t
    at [] j = rw b (same_sides (c == 92) (92 ∷ []) (c ∷ []) (λ q. ap (λ x. x ∷ []) (sym (eqb-true c 92 q))))
    at (d ∷ t) j = rw b (same_sides (c == 92) (if d == 10 then past k t else 92 ∷ d ∷ t) (c ∷ d ∷ t) (λ q. rw (no_line_end c d j q) (ap (λ x. x ∷ d ∷ t) (sym (eqb-true c 92 q)))))

pub run_stays : (k : Class) (c : ℕ) (t u : Text) → u ≡ c ∷ t → is_in k c ≡ false → begins_join u ≡ false → run k u ≡ []
unfolding run begins_join
run_stays k c t u e b j = subst (λ (u : Text). run k u ≡ []) (sym e) (at t (subst (λ (u : Text). begins_join u ≡ false) e j))
  where
    at : (t : Text) → begins_join (c ∷ t) ≡ false → run k (c ∷ t) ≡ []
    at [] j = rw b (same_sides (c == 92) [] [] (λ q. refl))
    at (d ∷ t) j = rw b (same_sides (c == 92) (if d == 10 then run k t else []) [] (λ q. rw (no_line_end c d j q)))

decimal_grows : (n : ℕ) (ds : List ℕ) → n ≤ decimal n ds
unfolding decimal
decimal_grows n [] = omega arith
decimal_grows n (c ∷ ds) = let h = decimal_grows (n * 10 + (c - 48)) ds in omega (arith, h)

-- to stop at the greatest number on the way is to stop there at the end
pub capped : (x : ℕ) (ds : List ℕ) → min (decimal (min x 4294967295) ds) 4294967295 ≡ min (decimal x ds) 4294967295
capped x ds = elim (cases_lt x 4294967295) [ inl h ↦ (let e : min x 4294967295 ≡ x = omega (arith, h) in rw e) | inr h ↦ (let e : min x 4294967295 ≡ 4294967295 = omega (arith, h) in let a = decimal_grows 4294967295 ds in let b = decimal_grows x ds in rw e (omega (arith, a, b, h))) ]

pub one_more : (rest more : Text) (c n m v : ℕ) → rest ≡ c ∷ more → is_digit c ≡ true → m ≡ min (n * 10 + (c - 48)) 4294967295 → min (decimal n (run Digits rest)) 4294967295 ≡ v → min (decimal m (run Digits more)) 4294967295 ≡ v
unfolding run decimal
one_more rest more c n m v e d s h =
    let i : min (decimal n (run Digits (c ∷ more))) 4294967295 ≡ v = subst (λ (u : Text). min (decimal n (run Digits u)) 4294967295 ≡ v) e h in
    let j = rw d at i in
    rw s (capped (n * 10 + (c - 48)) (run Digits more) ∙ j)

pub joined_more : (rest more : Text) (n v : ℕ) → rest ≡ 92 ∷ 10 ∷ more → min (decimal n (run Digits rest)) 4294967295 ≡ v → min (decimal n (run Digits more)) 4294967295 ≡ v
unfolding run
joined_more rest more n v e h = subst (λ (u : Text). min (decimal n (run Digits u)) 4294967295 ≡ v) e h

pub ended : (rest : Text) (n v : ℕ) → run Digits rest ≡ [] → n ≤ 4294967295 → min (decimal n (run Digits rest)) 4294967295 ≡ v → n ≡ v
unfolding decimal
ended rest n v e s h = let i = rw e at h in let k : min n 4294967295 ≡ n = omega (arith, s) in sym k ∙ i

pub nothing_left : (rest : Text) → rest ≡ [] → run Digits rest ≡ []
unfolding run
nothing_left rest e = rw e

append_nothing : (xs : List ℕ) → xs ++ [] ≡ xs
append_nothing [] = refl
append_nothing (x ∷ xs) = ap (λ l. x ∷ l) (append_nothing xs)

pub with_nothing : (xs ys zs : List ℕ) → ys ≡ [] → xs ++ ys ≡ zs → xs ≡ zs
with_nothing xs ys zs e h = sym (append_nothing xs) ∙ (let k : xs ++ [] ≡ zs = subst (λ (l : List ℕ). xs ++ l ≡ zs) e h in k)
