-- One pick more.
use Rattle.std.proofs.Common.{◌≡◌, ◌≢◌, inl, inr, ℕ, ◌+◌, ◌*◌, ◌/◌, ◌%◌, ◌<◌, ◌≤◌, List, [], ◌∷◌, ◌++◌, length, take, get_or, slice_index, IsTrue, Bool, true, false, cond, nat_eq, ◌&&◌, refl, sym, ◌∙◌, ap, subst, arith}
use Rattle.std.proofs.lemmas.Bool.{cases_lt, cases_eq}
use Rattle.std.proofs.lemmas.Bool.Decides.{nat_tests}
use Rattle.bd_dev.specs.declared.plant.Area.{Area}
use Rattle.bd_sim.specs.declared.image.Pick.{Pick}
use Rattle.bd_sim.specs.declared.image.Pick.TheVariants.{Old}
use Rattle.bd_dev.specs.declared.plant.Area.TheVariants.{Disk, Flash}
use Rattle.bd_dev.specs.Calls.{no_calls}
use Rattle.bd_sim.specs.declared.journal.Noted.{Noted}
use Rattle.bd_sim.specs.Journal.{same_area, after_each, start, of_area, before_call, with_call}
use Rattle.bd_sim.specs.View.{none_written, PlantInMemory}
use Rattle.bd_sim.specs.Image.{Picked, pick_of, byte_of, picked, IsPicked, IsLeft, crash_image}

-- the pick names this sector
abbrev pub names : Picked → Area → ℕ → Bool
names x area s = same_area x.0 area && nat_eq x.1 s

pub pick_of-push : (picks : List Picked) (x : Picked) (area : Area) (s : ℕ) (left : Pick) → pick_of (picks ++ x ∷ []) area s left ≡ cond (names x area s) x.2 (pick_of picks area s left)
pick_of-push [] x area s left = refl
pick_of-push (p ∷ ps) x area s left = pick_of-push ps x area s (cond (names p area s) p.2 left)

module _ (old new : ℕ → ℕ) (picks : List Picked) (area : Area) (n : ℕ) (x : Picked) (out : List ℕ) (before : IsPicked old new picks area n out) where
  unnamed : (at : ℕ) → names x area (at / 512) ≡ false → picked old new picks area at ≡ picked old new (picks ++ x ∷ []) area at
  unnamed at other = ap (λ (p : Pick). byte_of p (at % 512) (old at) (new at)) (sym (pick_of-push picks x area (at / 512) Old ∙ ap (λ (b : Bool). cond b x.2 (pick_of picks area (at / 512) Old)) other))

  named : (at : ℕ) → names x area (at / 512) ≡ true → byte_of x.2 (at % 512) (old at) (new at) ≡ picked old new (picks ++ x ∷ []) area at
  named at it = ap (λ (p : Pick). byte_of p (at % 512) (old at) (new at)) (sym (pick_of-push picks x area (at / 512) Old ∙ ap (λ (b : Bool). cond b x.2 (pick_of picks area (at / 512) Old)) it))

  -- it names no sector of the area
  pub IsPicked-outside : ((s : ℕ) → s < n / 512 → names x area s ≡ false) → IsPicked old new (picks ++ x ∷ []) area n out
  IsPicked-outside other = record {
    size = before.size;
    sectors = λ s k inside lt. before.sectors s k inside lt ∙ unnamed (512 * s + k) (other ((512 * s + k) / 512) (omega (arith, inside, lt)));
  }

  -- its sector is put
  pub IsPicked-put : (put : List ℕ) → same_area x.0 area ≡ true → length put ≡ length out
      → ((k : ℕ) → k < 512 → get_or put (512 * x.1 + k) 0 ≡ byte_of x.2 k (old (512 * x.1 + k)) (new (512 * x.1 + k)))
      → ((k : ℕ) → k < 512 * x.1 → get_or put k 0 ≡ get_or out k 0)
      → ((k : ℕ) → 512 * x.1 + 512 ≤ k → get_or put k 0 ≡ get_or out k 0)
      → IsPicked old new (picks ++ x ∷ []) area n put
  IsPicked-put put same long here below above = record {
    size = long ∙ before.size;
    sectors = λ s k inside lt. elim (cases_eq x.1 s) [
      | inl is ↦ subst (λ (m : ℕ). get_or put (512 * m + k) 0 ≡ picked old new (picks ++ x ∷ []) area (512 * m + k)) is (at_it k lt)
      | inr ne ↦ kept s k lt ne ∙ before.sectors s k inside lt ∙ unnamed (512 * s + k) (other s k lt ne)
    ];
  }
    where
      at_it : (k : ℕ) → k < 512 → get_or put (512 * x.1 + k) 0 ≡ picked old new (picks ++ x ∷ []) area (512 * x.1 + k)
      at_it k lt =
          let place : (512 * x.1 + k) % 512 ≡ k = omega arith in
          let sector : x.1 ≡ (512 * x.1 + k) / 512 = omega arith in
          let test : nat_eq x.1 ((512 * x.1 + k) / 512) ≡ true = grind (arith, nat_tests, sector) in
          here k lt
          ∙ ap (λ (i : ℕ). byte_of x.2 i (old (512 * x.1 + k)) (new (512 * x.1 + k))) (sym place)
          ∙ named (512 * x.1 + k) (λ i. same i && test i)

      kept : (s k : ℕ) → k < 512 → (x.1 ≡ s → ⊥) → get_or put (512 * s + k) 0 ≡ get_or out (512 * s + k) 0
      kept s k lt ne = elim (cases_lt s x.1) [
        | inl low ↦ below (512 * s + k) (omega (arith, lt, low))
        | inr high ↦ above (512 * s + k) (let apart : x.1 ≢ s = ne in omega (arith, lt, high, apart))
      ]

      other : (s k : ℕ) → k < 512 → (x.1 ≡ s → ⊥) → names x area ((512 * s + k) / 512) ≡ false
      other s k lt ne =
          let sector : (512 * s + k) / 512 ≡ s = omega arith in
          let test : nat_eq x.1 s ≡ false = let apart : x.1 ≢ s = ne in grind (arith, nat_tests, apart) in
          ap (λ (m : ℕ). names x area m) sector ∙ (λ i. same i && test i)

-- before the first pick
pub IsPicked-none : (old new : ℕ → ℕ) (area : Area) (n : ℕ) (out : List ℕ) → length out ≡ n → ((k : ℕ) → k < length out → get_or out k 0 ≡ old (0 + k)) → IsPicked old new [] area n out
IsPicked-none old new area n out long reads = record {
  size = long;
  sectors = λ s k inside lt. reads (512 * s + k) (omega (arith, inside, lt, long)) ∙ ap old (omega arith);
}

-- the bytes of an area of n bytes, as a crash within this call leaves them
abbrev pub IsAreaImage : List ℕ → List ℕ → List Noted → ℕ → List Picked → Area → ℕ → List ℕ → Type 0
IsAreaImage disk flash journal moment picks area n bytes = IsPicked
    ((after_each (start disk flash) (take (before_call journal moment) journal)).durable area)
    ((after_each (start disk flash) (take (with_call journal moment) journal)).reads area)
    picks area n bytes

-- a new plant of these bytes
pub IsLeft-new : (p : PlantInMemory) (moment : ℕ) (picks : List Picked) (q : PlantInMemory) → q.journal ≡ [] → q.calls ≡ no_calls [] → q.writes ≡ none_written
    → IsAreaImage p.disk p.flash p.journal moment picks Disk (length p.disk) q.disk
    → IsAreaImage p.disk p.flash p.journal moment picks Flash (length p.flash) q.flash
    → IsLeft p moment picks q
IsLeft-new p moment picks q journal calls writes disk flash = record {
  size = λ a. elim a as (λ a. length (of_area q.disk q.flash a) ≡ length (of_area p.disk p.flash a)) [ Disk ↦ disk.size | Flash ↦ flash.size ];
  reads = λ a s inside k lt.
      ap (λ (l : List Noted). (after_each (start q.disk q.flash) l).reads a (512 * s + k)) journal
      ∙ (elim a as (λ a. s < length (of_area p.disk p.flash a) / 512 → slice_index (of_area q.disk q.flash a) (512 * s + k) ≡ crash_image p moment picks a (512 * s + k)) [
        | Disk ↦ λ here. disk.sectors s k here lt
        | Flash ↦ λ here. flash.sectors s k here lt
      ]) (omega (arith, inside));
  synced = λ a s un. none (subst (λ (b : Bool). IsTrue b) (ap (λ (l : List Noted). (after_each (start q.disk q.flash) l).unsynced a s) journal) un);
  no_journal = journal;
  no_calls = calls;
  no_writes = writes;
}
  where
    none : IsTrue false → ⊥
    none h = grind arith
