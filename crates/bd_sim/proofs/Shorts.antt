-- A plant in short leaves the same.
use Rattle.std.proofs.Common.{◌≡◌, ℕ, ◌+◌, ◌-◌, ◌*◌, ◌/◌, ◌%◌, ◌<◌, List, [], ◌∷◌, length, get_or, take, Bool, true, cond, refl, sym, ◌∙◌, ap, arith}
use Rattle.std.proofs.lemmas.Bool.Decides.{nat_tests}
use Rattle.bd_dev.specs.declared.plant.Area.{Area}
use Rattle.bd_dev.specs.declared.plant.Area.TheVariants.{Disk, Flash}
use Rattle.bd_sim.specs.declared.image.Pick.TheVariants.{Old}
use Rattle.bd_sim.specs.declared.journal.Noted.{Noted}
use Rattle.bd_sim.specs.declared.journal.Step.{Step}
use Rattle.bd_sim.specs.declared.journal.Step.TheVariants.{Write}
use Rattle.bd_sim.specs.Journal.{IsRead, after_each, before_call, in_range, of_area, patch, start, with_call}
use Rattle.bd_sim.specs.View.{PlantInMemory, after, before}
use Rattle.bd_sim.specs.Image.{IsLeft, Picked, byte_of, crash_image, pick_of, picked}
use Rattle.bd_sim.specs.Open.{IsInShort}

-- what is written over a whole area
patch_whole : (z : ℕ → ℕ) (bytes : List ℕ) (k : ℕ) → k < length bytes → patch z (512 * 0) bytes k ≡ get_or bytes k 0
unfolding patch
patch_whole z bytes k lt =
    let inside : in_range (512 * 0) (length bytes) k ≡ true = grind (arith, nat_tests) in
    ap (λ (b : Bool). cond b (get_or bytes (k - 512 * 0) 0) (z k)) inside ∙ ap (λ (m : ℕ). get_or bytes m 0) (omega arith)

-- the two calls
abbrev pub two_writes : List ℕ → List ℕ → List Noted
two_writes disk flash = record { number = 1; step = Write Disk 0 disk } ∷ record { number = 2; step = Write Flash 0 flash } ∷ []

module _ (p : PlantInMemory) (moment : ℕ) (short : PlantInMemory) (disk flash : List ℕ) (noted : short.journal ≡ two_writes disk flash)
    (long : (a : Area) → length (of_area short.disk short.flash a) ≡ length (of_area p.disk p.flash a)) (long_then : (a : Area) → length (of_area disk flash a) ≡ length (of_area p.disk p.flash a))
    (old : (a : Area) → IsRead ((before p moment).durable a) 0 (of_area short.disk short.flash a)) (new : (a : Area) → IsRead ((after p moment).reads a) 0 (of_area disk flash a)) where
  durable_is : (a : Area) (k : ℕ) → (before short 2).durable a k ≡ get_or (of_area short.disk short.flash a) k 0
  durable_is a k = ap (λ (l : List Noted). (after_each (start short.disk short.flash) (take (before_call l 2) l)).durable a k) noted

  reads_is : (a : Area) (k : ℕ) → k < length (of_area disk flash a) → (after short 2).reads a k ≡ get_or (of_area disk flash a) k 0
  reads_is a k lt = ap (λ (l : List Noted). (after_each (start short.disk short.flash) (take (with_call l 2) l)).reads a k) noted ∙ there a lt
    where
      there : (a : Area) → k < length (of_area disk flash a) → (after_each (start short.disk short.flash) (two_writes disk flash)).reads a k ≡ get_or (of_area disk flash a) k 0
      there Disk lt = patch_whole _ disk k lt
      there Flash lt = patch_whole _ flash k lt

  pub in_short : IsInShort p moment short
  in_short = record {
    size = long;
    same = λ picks a s inside k lt.
        let at = 512 * s + k in
        let below : at < length (of_area p.disk p.flash a) = omega (arith, inside, lt) in
        let was : (before short 2).durable a at ≡ (before p moment).durable a at = durable_is a at ∙ old a at (omega (arith, below, long a)) ∙ ap ((before p moment).durable a) (omega arith) in
        let is : (after short 2).reads a at ≡ (after p moment).reads a at = reads_is a at (omega (arith, below, long_then a)) ∙ new a at (omega (arith, below, long_then a)) ∙ ap ((after p moment).reads a) (omega arith) in
        λ i. byte_of (pick_of picks a (at / 512) Old) (at % 512) (was i) (is i);
  }

-- what the short plant leaves, the other one leaves too
pub left_too : (p : PlantInMemory) (moment : ℕ) (short : PlantInMemory) (picks : List Picked) (q : PlantInMemory) → IsInShort p moment short → IsLeft short 2 picks q → IsLeft p moment picks q
left_too p moment short picks q same left = record {
  size = λ a. left.size a ∙ same.size a;
  reads = λ a s inside k lt.
      left.reads a s (omega (arith, inside, same.size a)) k lt ∙ same.same picks a s (omega (arith, inside)) k lt;
  synced = left.synced;
  no_journal = left.no_journal;
  no_calls = left.no_calls;
  no_writes = left.no_writes;
}
