-- The list of the open sectors, sector by sector.
use Rattle.std.proofs.Common.{◌≡◌, ◌⊎◌, inl, inr, Result, Ok, Err, OnOk, ℕ, suc, zero, ◌+◌, List, [], ◌∷◌, ◌++◌, Bool, true, false, cond, nat_eq, ◌&&◌, ◌||◌, ◌/◌, ◌≤◌, nat_le, length, refl, sym, ◌∙◌, ap, append_assoc, arith}
use Rattle.std.specs.List.{list_all, list_any}
use Rattle.std.proofs.lemmas.Bool.{eqb-true}
use Rattle.std.proofs.lemmas.Bool.Decides.{nat_tests}
use Rattle.std.proofs.lemmas.List.Folds.{list_any-append}
use Rattle.bd_dev.specs.declared.plant.Area.{Area}
use Rattle.bd_dev.specs.declared.plant.Area.TheVariants.{Disk, Flash}
use Rattle.bd_sim.specs.declared.image.Pick.TheVariants.{Old}
use Rattle.bd_sim.specs.declared.journal.Noted.{Noted}
use Rattle.bd_sim.specs.Journal.{of_area, same_area}
use Rattle.bd_sim.specs.View.{PlantInMemory}
use Rattle.bd_sim.specs.Image.{Picked, allows, may_tear}
use Rattle.bd_sim.specs.Open.{Sector, is_among, open_below, open_in, open_sectors}
use Rattle.bd_sim.proofs.Calls.{same_area_true}

-- one sector more
pub open_more : (f : ℕ → Bool) (area : Area) (lba : ℕ) (before so_far pushed : List Sector) (is_open : Bool) → so_far ≡ before ++ open_below f area lba → is_open ≡ f lba
    → pushed ≡ so_far ++ cond is_open ((area, lba) ∷ []) [] → pushed ≡ before ++ open_below f area (lba + 1)
open_more f area lba before so_far pushed is_open first is push =
    let next : suc lba ≡ lba + 1 = omega arith in
    push ∙ (λ i. first i ++ cond (is i) ((area, lba) ∷ []) []) ∙ append_assoc before (open_below f area lba) (cond (f lba) ((area, lba) ∷ []) [])
    ∙ ap (λ (n : ℕ). before ++ open_below f area n) next

either_true : (b c : Bool) → (b || c) ≡ true → (b ≡ true) ⊎ (c ≡ true)
either_true true c is = inl refl
either_true false c is = inr is

both_true : (b c : Bool) → (b && c) ≡ true → (b ≡ true) × (c ≡ true)
both_true true c is = (refl, is)
both_true false c is = cc

-- the pick's sector is this one
abbrev is_this : Picked → Sector → Bool
is_this p s = same_area s.0 p.0 && nat_eq s.1 p.1

-- a pick among the open sectors of an area is of an open one
among_open : (f : ℕ → Bool) (area : Area) (n : ℕ) (p : Picked) → list_any (is_this p) (open_below f area n) ≡ true → (area ≡ p.0) × (f p.1 ≡ true)
among_open f area zero p is = absurd (cc)
among_open f area (suc n) p is = elim (either_true (list_any (is_this p) (open_below f area n)) (list_any (is_this p) (cond (f n) ((area, n) ∷ []) [])) (sym (list_any-append (is_this p) (open_below f area n) (cond (f n) ((area, n) ∷ []) [])) ∙ is)) [
  | inl below ↦ among_open f area n p below
  | inr here ↦ last (f n) refl here
]
  where
    last : (b : Bool) → f n ≡ b → list_any (is_this p) (cond b ((area, n) ∷ []) []) ≡ true → (area ≡ p.0) × (f p.1 ≡ true)
    last false shut none = absurd (cc)
    last true is_open any = elim (either_true (is_this p (area, n)) false any) [
      | inl this ↦
          let both = both_true (same_area area p.0) (nat_eq n p.1) this in
          (same_area_true area p.0 both.0, sym (ap f (eqb-true n p.1 both.1)) ∙ is_open)
      | inr none ↦ absurd (cc)
    ]

among_may_tear : (p : PlantInMemory) (moment : ℕ) (x : Picked) → is_among (open_sectors p moment) x ≡ true → may_tear p.journal moment x ≡ true
among_may_tear p moment x is = elim (either_true (list_any (is_this x) (open_in p moment Disk)) (list_any (is_this x) (open_in p moment Flash)) (sym (list_any-append (is_this x) (open_in p moment Disk) (open_in p moment Flash)) ∙ is)) [
  | inl disk ↦ here Disk disk
  | inr flash ↦ here Flash flash
]
  where
    here : (area : Area) → list_any (is_this x) (open_in p moment area) ≡ true → may_tear p.journal moment x ≡ true
    here area any =
        let found = among_open (λ (s : ℕ). may_tear p.journal moment (area, s, Old)) area (length (of_area p.disk p.flash area) / 512) x any in
        (λ i. may_tear p.journal moment (sym found.0 i, x.1, Old)) ∙ found.1

-- picks of open sectors are allowed
pub all_may_tear : (p : PlantInMemory) (moment : ℕ) (picks : List Picked) → list_all (is_among (open_sectors p moment)) picks ≡ true → list_all (may_tear p.journal moment) picks ≡ true
all_may_tear p moment [] all = refl
all_may_tear p moment (x ∷ xs) all =
    let both = both_true (is_among (open_sectors p moment) x) (list_all (is_among (open_sectors p moment)) xs) all in
    λ i. among_may_tear p moment x both.0 i && all_may_tear p moment xs both.1 i

pub are_allowed : (p : PlantInMemory) (moment : ℕ) (picks : List Picked) (sectors : List Sector) → moment ≤ p.calls.made → sectors ≡ open_sectors p moment → list_all (is_among sectors) picks ≡ true → allows p moment picks ≡ true
are_allowed p moment picks sectors made is all =
    let known : nat_le moment p.calls.made ≡ true = grind (arith, nat_tests) in
    let each = all_may_tear p moment picks ((λ i. list_all (is_among (sym is i)) picks) ∙ all) in
    λ i. known i && each i

-- what holds in any case
pub on_ok_always : {T E : Type 0} (r : Result T E) (P : Type 0) → P → OnOk r P
on_ok_always (Ok x) P p = p
on_ok_always (Err e) P p = tt
