-- A plant in memory, as those who use it see it.
use Rattle.std.specs.Prelude.{◌≡◌, ◌⊎◌, ℕ, ◌+◌, ◌*◌, ◌/◌, ◌≤◌, ◌^◌, List, [], ◌∷◌, ◌++◌, length, take, min, Bool, true, false, IsTrue}
use Rattle.std.proofs.Common.{sym, ◌∙◌, ap, subst, arith}
use Rattle.std.proofs.lemmas.List.{take_all}
use Rattle.bd_dev.specs.declared.plant.Area.{Area}
use Rattle.bd_dev.specs.Calls.{Calls, after_call}
use Rattle.bd_dev.specs.Content.{Image}
use Rattle.bd_dev.specs.Faults.{one_more}
use Rattle.bd_dev.specs.Plant.{View, IsHonest, written_more}
use Rattle.bd_sim.specs.declared.journal.Noted.{Noted}
use Rattle.bd_sim.specs.declared.journal.Step.{Step}
use Rattle.bd_sim.specs.declared.written.Written.{Written}
use Rattle.bd_sim.specs.declared.journal.Step.TheVariants.{Write, FailedWrite, Sync}
use Rattle.bd_sim.specs.Journal.{State, after_each, start, of_area, before_call, with_call, IsImageOf}

-- no sector was written
abbrev pub none_written : Written
none_written = record { disk = 0; flash = 0 }

-- after n sectors of an area more
abbrev pub after_writing : Written → Area → ℕ → Written
after_writing w area n = record {
  disk = of_area (written_more w.disk n) w.disk area;
  flash = of_area w.flash (written_more w.flash n) area;
}

-- what the areas held at first, the calls that changed that, all calls, and how many sectors were written
pub record PlantInMemory : Type 0 where
  pub disk : List ℕ
  pub flash : List ℕ
  pub journal : List Noted
  pub calls : Calls
  pub writes : Written

-- now
abbrev pub now : PlantInMemory → State
now p = after_each (start p.disk p.flash) p.journal

-- after the first k noted calls
abbrev pub state_at : PlantInMemory → ℕ → State
state_at p k = after_each (start p.disk p.flash) (take k p.journal)

-- before the call of this number, and after it
abbrev pub before : PlantInMemory → ℕ → State
before p number = state_at p (before_call p.journal number)

abbrev pub after : PlantInMemory → ℕ → State
after p number = state_at p (with_call p.journal number)

-- the clock counts the noted calls
abbrev pub view_of : PlantInMemory → View
view_of p = record {
  tells = Unit {0};
  size = λ a. min (length (of_area p.disk p.flash a) / 512) (2 ^ 40);
  reads = (now p).reads;
  unsynced = λ a q. IsTrue ((now p).unsynced a q);
  moment = length p.journal;
  left_since = λ t c. (k : ℕ) × (t ≤ k) × (k ≤ length p.journal) × IsImageOf (state_at p k) c;
  read_since = λ t c. (k : ℕ) × (t ≤ k) × (k ≤ length p.journal) × (c ≡ (state_at p k).reads);
  writes = of_area p.writes.disk p.writes.flash;
  faults = p.calls.faults;
}

same_image : (s : State) (c : Image) → c ≡ s.reads → IsImageOf s c
same_image s c same a q synced k lt = ap (λ (z : Image). z a (512 * q + k)) same

pub view_honest : (p : PlantInMemory) → IsHonest (view_of p)
view_honest p = record {
  small = λ a. omega arith;
  counts_now = λ tells t c le image. (length p.journal, le, le_refl, subst (λ (l : List Noted). IsImageOf (after_each (start p.disk p.flash) l) c) (sym whole) image);
  only_now = λ tells c left. subst (λ (l : List Noted). IsImageOf (after_each (start p.disk p.flash) l) c) (all left.0 left.1) left.3;
  between_now = λ tells c left. left.3 ∙ ap (λ (l : List Noted). (after_each (start p.disk p.flash) l).reads) (all left.0 left.1);
  between = λ tells t c le left. (left.0, left.1, left.2, same_image (state_at p left.0) c left.3);
}
  where
    le_refl : length p.journal ≤ length p.journal
    le_refl = omega arith

    whole : take (length p.journal) p.journal ≡ p.journal
    whole = take_all (length p.journal) p.journal (omega arith)

    all : (k : ℕ) → length p.journal ≤ k → take k p.journal ≡ p.journal
    all k le = take_all k p.journal le

-- after a call that changed nothing, and failed or not
abbrev pub counted : PlantInMemory → Bool → PlantInMemory
counted p failed = record p { calls = after_call p.calls failed }

-- after a call that did this, and failed or not
abbrev pub noted : PlantInMemory → Step → Bool → PlantInMemory
noted p step failed = record (counted p failed) {
  journal = p.journal ++ record { number = one_more p.calls.made; step = step } ∷ [];
}

-- after a write of these bytes
abbrev pub written : PlantInMemory → Area → ℕ → List ℕ → PlantInMemory
written p area lba bytes = record (noted p (Write area lba bytes) false) { writes = after_writing p.writes area (length bytes / 512) }

-- after a write of n sectors that failed; for want of memory it may go unnoted
abbrev pub FailsWrite : PlantInMemory → PlantInMemory → Area → ℕ → ℕ → Type 0
FailsWrite p q area lba n =
    (q ≡ record (noted p (FailedWrite area lba n) true) { writes = after_writing p.writes area n })
    ⊎ (q ≡ record (counted p true) { writes = after_writing p.writes area n })

-- after a sync
abbrev pub synced : PlantInMemory → Area → PlantInMemory
synced p area = noted p (Sync area) false
