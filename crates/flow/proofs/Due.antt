-- The first deadline of several flows.
use Rattle.std.proofs.Common.{◌≡◌, ◌<◌, ◌≤◌, ◌+◌, ◌⊎◌, inl, inr, ℕ, Bool, true, false, Option, Some, None, refl, arith, ap, ◌∙◌, List}
use Rattle.std.specs.Prelude.{slice_get, nat_le, if◌then◌else◌}
use Rattle.std.proofs.lemmas.Bool.Decides.{nat_tests}
use Rattle.flow.specs.declared.flows.Flow.{Flow}
use Rattle.flow.specs.Core.{Acts, IsEarly}
use Rattle.flow.specs.Running.{IsDueBelow, sooner_of}

pub early_due : (at : ℕ) (o : Option ℕ) → IsEarly at o → (d : ℕ) × (o ≡ Some d) × (at < d)
early_due at None h = absurd h
early_due at (Some d) h = (d, refl, h)

pub split : (k n : ℕ) → k < n + 1 → (k < n) ⊎ (k ≡ n)
split k n lt = grind arith

at_same : {X : Type 0} (xs : List X) (k n : ℕ) (x y : X) → slice_get xs n ≡ Some x → k ≡ n → slice_get xs k ≡ Some y → y ≡ x
at_same xs k n x y a e b = let f = ap (slice_get xs) e in cc

pub due_more : {C : Type 0} (acts : Acts C) (flows : List (Flow C)) (n : ℕ) (best : Option (ℕ × ℕ)) (f : Flow C) (due : Option ℕ) → slice_get flows n ≡ Some f → acts.deadline f.core ≡ due → IsDueBelow acts flows n best → IsDueBelow acts flows (n + 1) (sooner_of best n due)
due_more acts flows n None f None here is below = λ k g lt e.
    elim (split k n lt) [ inl less ↦ below k g less e | inr same ↦ ap (λ h. acts.deadline h.core) (at_same flows k n f g here same e) ∙ is ]
due_more acts flows n None f (Some d) here is below = record {
  within = omega arith;
  due = λ g e. ap (λ h. acts.deadline h.core) (at_same flows n n f g here refl e) ∙ is;
  least = λ k t g lt e q. elim (split k n lt) [
    | inl less ↦ (let no = below k g less e in absurd (cc (no, q)))
    | inr same ↦ (let m = ap (λ h. acts.deadline h.core) (at_same flows k n f g here same e) in let h : d ≡ t = cc (m, is, q) in omega (arith, h))
  ];
}
due_more acts flows n (Some p) f None here is below = record {
  within = omega (arith, below.within);
  due = below.due;
  least = λ k t g lt e q. elim (split k n lt) [
    | inl less ↦ below.least k t g less e q
    | inr same ↦ (let m = ap (λ h. acts.deadline h.core) (at_same flows k n f g here same e) in absurd (cc (m, is, q)))
  ];
}
due_more acts flows n (Some p) f (Some d) here is below = by_test (nat_le p.1 d) refl
  where
    by_test : (b : Bool) → nat_le p.1 d ≡ b → IsDueBelow acts flows (n + 1) (if b then Some p else Some (n, d))
    by_test true t = record {
      within = omega (arith, below.within);
      due = below.due;
      least = λ k s g lt e q. elim (split k n lt) [
        | inl less ↦ below.least k s g less e q
        | inr same ↦ (let m = ap (λ h. acts.deadline h.core) (at_same flows k n f g here same e) in let h : d ≡ s = cc (m, is, q) in let le : p.1 ≤ d = grind (arith, nat_tests) in omega (arith, h, le))
      ];
    }
    by_test false t = record {
      within = omega arith;
      due = λ g e. ap (λ h. acts.deadline h.core) (at_same flows n n f g here refl e) ∙ is;
      least = λ k s g lt e q. elim (split k n lt) [
        | inl less ↦ (let a = below.least k s g less e q in let gt : d < p.1 = grind (arith, nat_tests) in omega (arith, a, gt))
        | inr same ↦ (let m = ap (λ h. acts.deadline h.core) (at_same flows k n f g here same e) in let h : d ≡ s = cc (m, is, q) in omega (arith, h))
      ];
    }
