-- What a crash within a call leaves is one of the images that the view has.
use Rattle.std.proofs.Common.{◌≡◌, ◌⊎◌, inl, inr, ⊎_elim, ℕ, ◌+◌, ◌-◌, ◌*◌, ◌/◌, ◌%◌, ◌<◌, ◌≤◌, List, [], ◌∷◌, length, take, get_or, Option, Some, None, unwrap_or, option_map, position, Bool, true, false, not, cond, nat_eq, nat_le, ◌&&◌, ◌||◌, IsTrue, refl, sym, ◌∙◌, ap, subst, arith, rules}
use Rattle.std.specs.List.{list_all}
use Rattle.std.proofs.lemmas.Bool.{eqb-true}
use Rattle.std.proofs.lemmas.Bool.Decides.{nat_tests}
use Rattle.std.proofs.lemmas.List.Quantifiers.{position-Some}
use Rattle.std.proofs.lemmas.Option.{slice_get_cases}
use Rattle.bd_dev.specs.declared.plant.Area.{Area}
use Rattle.bd_dev.specs.declared.plant.Area.TheVariants.{Disk}
use Rattle.bd_dev.specs.Content.{SameSector}
use Rattle.bd_sim.specs.declared.image.Pick.{Pick}
use Rattle.bd_sim.specs.declared.image.Pick.TheVariants.{Old}
use Rattle.bd_sim.specs.declared.journal.Noted.{Noted}
use Rattle.bd_sim.specs.declared.journal.Step.{Step}
use Rattle.bd_sim.specs.declared.journal.Step.TheVariants.{Write, FailedWrite, Sync}
use Rattle.bd_sim.specs.Journal.{State, same_area, in_range, patch, step, after_each, start, before_call, with_call, IsImageOf}
use Rattle.bd_sim.specs.View.{PlantInMemory, state_at, before, after, view_of}
use Rattle.bd_sim.specs.Image.{Picked, pick_of, byte_of, crash_image, unsynced_after, may_tear, allows}
use Rattle.bd_sim.proofs.Calls.{same_area_true, outside_range}
use Rattle.bd_sim.proofs.Replaying.{take-step}

-- a state in which each synced sector reads as at the area's last sync
abbrev IsKept : State → Type 0
IsKept s = (a : Area) (q : ℕ) → s.unsynced a q ≡ false → SameSector (s.reads a) (s.durable a) q

or_false : (b c : Bool) → (b || c) ≡ false → (b ≡ false) × (c ≡ false)
or_false true c is = cc
or_false false c is = (refl, is)

-- a write that doesn't mark a sector doesn't put a byte of it
put_elsewhere : (s : State) (area : Area) (lba : ℕ) (bytes : List ℕ) (a : Area) (q : ℕ) → (same_area a area && in_range lba ((length bytes + 511) / 512) q) ≡ false
    → SameSector (s.reads a) ((step s (Write area lba bytes)).reads a) q
unfolding patch
put_elsewhere s area lba bytes a q = elim (same_area a area) as (λ b. (b && in_range lba ((length bytes + 511) / 512) q) ≡ false → (k : ℕ) → k < 512 → (cond b (patch (s.reads a) (512 * lba) bytes) (s.reads a)) (512 * q + k) ≡ s.reads a (512 * q + k)) [
  | true ↦ λ away k lt.
      let apart : (512 * q + k < 512 * lba) ⊎ (512 * lba + length bytes ≤ 512 * q + k) = ⊎_elim (λ low. inl (omega (arith, low, lt))) (λ high. inr (omega (arith, high, lt))) (out_of lba ((length bytes + 511) / 512) q away) in
      ap (λ (b : Bool). cond b (get_or bytes (512 * q + k - 512 * lba) 0) (s.reads a (512 * q + k))) (outside_range (512 * lba) (length bytes) (512 * q + k) apart)
  | false ↦ λ away k lt. refl
]
  where
    out_of : (first n k : ℕ) → in_range first n k ≡ false → (k < first) ⊎ (first + n ≤ k)
    out_of first n k away = grind (arith, nat_tests)

IsKept-step : (s : State) (x : Step) → IsKept s → IsKept (step s x)
IsKept-step s (Write area lba bytes) kept a q synced k lt =
    let both = or_false (same_area a area && in_range lba ((length bytes + 511) / 512) q) (s.unsynced a q) synced in
    kept a q both.1 k lt ∙ sym (put_elsewhere s area lba bytes a q both.0 k lt)
IsKept-step s (FailedWrite area lba n) kept a q synced k lt =
    let both = or_false (same_area a area && in_range lba n q) (s.unsynced a q) synced in
    kept a q both.1 k lt
IsKept-step s (Sync area) kept a q synced k lt = elim (same_area a area) as (λ b. (not b && s.unsynced a q) ≡ false → (cond b (s.reads a) (s.durable a)) (512 * q + k) ≡ s.reads a (512 * q + k)) [
  | true ↦ λ is. refl
  | false ↦ λ is. kept a q is k lt
] synced

IsKept-after : (s : State) (xs : List Noted) → IsKept s → IsKept (after_each s xs)
IsKept-after s [] kept = kept
IsKept-after s (x ∷ xs) kept = IsKept-after (step s x.step) xs (IsKept-step s x.step kept)

IsKept-start : (disk flash : List ℕ) → IsKept (start disk flash)
IsKept-start disk flash a q synced k lt = refl

-- which sectors are unsynced doesn't depend on the bytes
same_marks : (s t : State) (x : Step) → s.unsynced ≡ t.unsynced → (step s x).unsynced ≡ (step t x).unsynced
same_marks s t (Write area lba bytes) is = ap (λ (u : Area → ℕ → Bool). λ (a : Area) (q : ℕ). (same_area a area && in_range lba ((length bytes + 511) / 512) q) || u a q) is
same_marks s t (FailedWrite area lba n) is = ap (λ (u : Area → ℕ → Bool). λ (a : Area) (q : ℕ). (same_area a area && in_range lba n q) || u a q) is
same_marks s t (Sync area) is = ap (λ (u : Area → ℕ → Bool). λ (a : Area) (q : ℕ). not (same_area a area) && u a q) is

same_marks_after : (s t : State) (xs : List Noted) → s.unsynced ≡ t.unsynced → (after_each s xs).unsynced ≡ (after_each t xs).unsynced
same_marks_after s t [] is = is
same_marks_after s t (x ∷ xs) is = same_marks_after (step s x.step) (step t x.step) xs (same_marks s t x.step is)

and_true : (b c : Bool) → (b && c) ≡ true → (b ≡ true) × (c ≡ true)
and_true true c is = (refl, is)
and_true false c is = cc

-- where no pick names a sector
unpicked : (journal : List Noted) (moment : ℕ) (picks : List Picked) (a : Area) (q : ℕ) (left : Pick) → list_all (may_tear journal moment) picks ≡ true → may_tear journal moment (a, q, left) ≡ false → pick_of picks a q left ≡ left
unpicked journal moment [] a q left all whole = refl
unpicked journal moment (p ∷ ps) a q left all whole =
    let both = and_true (may_tear journal moment p) (list_all (may_tear journal moment) ps) all in
    elim (same_area p.0 a && nat_eq p.1 q) as (λ b. (same_area p.0 a && nat_eq p.1 q) ≡ b → pick_of ps a q (cond b p.2 left) ≡ left) [
      | true ↦ λ named.
          let same = and_true (same_area p.0 a) (nat_eq p.1 q) named in
          let area = same_area_true p.0 a same.0 in
          let sector = eqb-true p.1 q same.1 in
          let torn : may_tear journal moment (a, q, left) ≡ true = sym (λ i. may_tear journal moment (area i, sector i, left)) ∙ both.0 in
          absurd (not_both (may_tear journal moment (a, q, left)) torn whole)
      | false ↦ λ named. unpicked journal moment ps a q left both.1 whole
    ] refl
  where
    not_both : (b : Bool) → b ≡ true → b ≡ false → ⊥
    not_both true yes_is no_is = cc
    not_both false yes_is no_is = cc

before_within : (journal : List Noted) (number : ℕ) → before_call journal number ≤ length journal
before_within journal number = within (position (λ (x : Noted). nat_le number x.number) journal) refl
  where
    within : (found : Option ℕ) → position (λ (x : Noted). nat_le number x.number) journal ≡ found → unwrap_or found (length journal) ≤ length journal
    within None is = omega arith
    within (Some i) is = let inside = (position-Some (λ (x : Noted). nat_le number x.number) journal i (record { number = 0; step = Sync Disk }) is).0 in omega (arith, inside)

-- the call was noted, and is the next one, or it wasn't
with_cases : (journal : List Noted) (number : ℕ) → (with_call journal number ≡ before_call journal number)
    ⊎ ((x : Noted) × (before_call journal number < length journal) × (get_or journal (before_call journal number) x ≡ x) × (with_call journal number ≡ before_call journal number + 1))
with_cases journal number = elim ((slice_get_cases journal (before_call journal number)).1) [
  | inl there ↦ elim (nat_eq there.0.number number) as (λ b. nat_eq there.0.number number ≡ b → (with_call journal number ≡ before_call journal number) ⊎ ((x : Noted) × (before_call journal number < length journal) × (get_or journal (before_call journal number) x ≡ x) × (with_call journal number ≡ before_call journal number + 1))) [
    | true ↦ λ is. inr (there.0, there.1, there.3, ap (λ (o : Option Noted). cond (unwrap_or (option_map (λ (x : Noted). nat_eq x.number number) o) false) (before_call journal number + 1) (before_call journal number)) there.2 ∙ ap (λ (b : Bool). cond b (before_call journal number + 1) (before_call journal number)) is)
    | false ↦ λ is. inl (ap (λ (o : Option Noted). cond (unwrap_or (option_map (λ (x : Noted). nat_eq x.number number) o) false) (before_call journal number + 1) (before_call journal number)) there.2 ∙ ap (λ (b : Bool). cond b (before_call journal number + 1) (before_call journal number)) is)
  ] refl
  | inr past ↦ inl (ap (λ (o : Option Noted). cond (unwrap_or (option_map (λ (x : Noted). nat_eq x.number number) o) false) (before_call journal number + 1) (before_call journal number)) past.1)
]

module _ (p : PlantInMemory) (moment : ℕ) (picks : List Picked) (allowed : allows p moment picks ≡ true) where
  all : list_all (may_tear p.journal moment) picks ≡ true
  all = (and_true (nat_le moment p.calls.made) (list_all (may_tear p.journal moment) picks) allowed).1

  marks : (xs : List Noted) (a : Area) (q : ℕ) → unsynced_after xs a q ≡ (after_each (start p.disk p.flash) xs).unsynced a q
  marks xs a q = ap (λ (u : Area → ℕ → Bool). u a q) (same_marks_after (start [] []) (start p.disk p.flash) xs refl)

  -- a sector that is synced before and after the call stands as it read
  stands : (a : Area) (q : ℕ) → (before p moment).unsynced a q ≡ false → (after p moment).unsynced a q ≡ false → SameSector ((before p moment).reads a) (crash_image p moment picks a) q
  stands a q old_synced new_synced k lt =
      let sector : (512 * q + k) / 512 ≡ q = omega arith in
      let whole : may_tear p.journal moment (a, q, Old) ≡ false =
      (λ i. (marks (take (before_call p.journal moment) p.journal) a q ∙ old_synced) i || (marks (take (with_call p.journal moment) p.journal) a q ∙ new_synced) i) in
      ap (λ (x : Pick). byte_of x ((512 * q + k) % 512) ((before p moment).durable a (512 * q + k)) ((after p moment).reads a (512 * q + k)))
      (ap (λ (s : ℕ). pick_of picks a s Old) sector ∙ unpicked p.journal moment picks a q Old all whole)
      ∙ IsKept-after (start p.disk p.flash) (take (before_call p.journal moment) p.journal) (IsKept-start p.disk p.flash) a q old_synced k lt

  is_false : (t : Bool) → (IsTrue t → ⊥) → t ≡ false
  is_false true none = absurd (none is_true)
    where
      is_true : IsTrue true
      is_true = search rules
  is_false false none = refl

  -- of the state before the call, where the call adds no unsynced sector
  image_before : ((a : Area) (q : ℕ) → (before p moment).unsynced a q ≡ false → (after p moment).unsynced a q ≡ false) → IsImageOf (before p moment) (crash_image p moment picks)
  image_before less a q synced = let none = is_false ((before p moment).unsynced a q) synced in stands a q none (less a q none)

  -- of the state after it, where it is a write
  image_after : ((a : Area) (q : ℕ) → (after p moment).unsynced a q ≡ false → ((before p moment).unsynced a q ≡ false) × SameSector ((before p moment).reads a) ((after p moment).reads a) q) → IsImageOf (after p moment) (crash_image p moment picks)
  image_after more a q synced k lt =
      let none = is_false ((after p moment).unsynced a q) synced in
      let kept = more a q none in
      stands a q kept.0 none k lt ∙ sym (kept.1 k lt)

  by_step : (s : State) (x : Step) → ((a : Area) (q : ℕ) → s.unsynced a q ≡ false → (step s x).unsynced a q ≡ false)
      ⊎ ((a : Area) (q : ℕ) → (step s x).unsynced a q ≡ false → (s.unsynced a q ≡ false) × SameSector (s.reads a) ((step s x).reads a) q)
  by_step s (Write area lba bytes) = inr (λ a q synced.
      let both = or_false (same_area a area && in_range lba ((length bytes + 511) / 512) q) (s.unsynced a q) synced in
      (both.1, put_elsewhere s area lba bytes a q both.0))
  by_step s (FailedWrite area lba n) = inr (λ a q synced. ((or_false (same_area a area && in_range lba n q) (s.unsynced a q) synced).1, λ k lt. refl))
  by_step s (Sync area) = inl (λ a q synced. stays_false (not (same_area a area)) (s.unsynced a q) synced)
    where
      stays_false : (b c : Bool) → c ≡ false → (b && c) ≡ false
      stays_false true c is = is
      stays_false false c is = refl

  pub crashes : (t : ℕ) → t ≤ before_call p.journal moment → (view_of p).left_since t (crash_image p moment picks)
  crashes t le = elim (with_cases p.journal moment) [
    | inl same ↦ (before_call p.journal moment, le, before_within p.journal moment, image_before (λ a q synced. ap (λ (k : ℕ). (state_at p k).unsynced a q) same ∙ synced))
    | inr next ↦
        let is : after p moment ≡ step (before p moment) next.0.step = ap (λ (k : ℕ). state_at p k) next.3 ∙ take-step (start p.disk p.flash) p.journal (before_call p.journal moment) next.0 next.1 (sym next.2) in
        elim (by_step (before p moment) next.0.step) [
          | inl less ↦ (before_call p.journal moment, le, before_within p.journal moment, image_before (λ a q synced. ap (λ (s : State). s.unsynced a q) is ∙ less a q synced))
          | inr more ↦ (
            before_call p.journal moment + 1,
            omega (arith, le),
            omega (arith, next.1),
            subst (λ (k : ℕ). IsImageOf (state_at p k) (crash_image p moment picks)) next.3
                (image_after (λ a q synced.
                let kept = more a q (sym (ap (λ (s : State). s.unsynced a q) is) ∙ synced) in
                (kept.0, λ k lt. ap (λ (s : State). s.reads a (512 * q + k)) is ∙ kept.1 k lt))),
          )
        ]
  ]
