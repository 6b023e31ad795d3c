-- The state after each effect of an orderly run is a start, ONIE's entry is where it was, and its sectors are as they
-- were.
use Rattle.std.proofs.Common.{inl, inr, ⊎_elim, ℕ, zero, suc, ◌-◌, ◌*◌, ◌≤◌, List, [], ◌∷◌, length, take, refl, sym, ◌∙◌, subst, arith}
use Rattle.bd_dev.specs.declared.plant.Area.{Area}
use Rattle.bd_dev.specs.declared.plant.Area.TheVariants.{Disk}
use Rattle.bd_dev.specs.Content.{SameSector}
use Rattle.gpt_copy.specs.declared.table.Entry.{Entry}
use Rattle.gpt_copy.specs.declared.table.Table.{Table}
use Rattle.gpt_copy.specs.Copy.{FitsDisk}
use Rattle.storage_model.specs.Entries.{InEntry, OnieEntry}
use Rattle.storage_model.specs.Soundness.{IsSoundTable}
use Rattle.cuts.specs.declared.effect.Effect.{Effect}
use Rattle.cuts.specs.declared.effect.Effect.TheVariants.{Put, Sync, Table as SetTable, Vars as SetVars}
use Rattle.cuts.specs.States.{State, after, after_one, patch, pending, pending_one}
use Rattle.cuts.specs.Orderly.{AreLawful, AreOrderly, HasOnieAs, IsLawful, IsLawfulTable, IsNamed, KeepsOff, KeepsRules}
use Rattle.cuts.specs.Law.{IsStart}
use Rattle.cuts.proofs.Places.{onie_self, onie_then, placed_in, same_guid}
use Rattle.cuts.proofs.Patches.{patched_out}
use Rattle.cuts.proofs.Images.{image_kept, image_placed}

-- the table that is set fits the disk as the one before
pub fits_next : (last : ℕ) (old new : Table) → FitsDisk last old → IsLawfulTable old new → FitsDisk last new
fits_next last old new fits lawful = record {
  from = omega (arith, fits.from, lawful.first);
  ordered = omega (arith, fits.ordered, lawful.first, lawful.last);
  until = omega (arith, fits.until, lawful.last);
}

-- ONIE's partition has at least a sector, and that is where its image begins
pub first_inside : (disk : ℕ → ℕ) (t : Table) (sound : IsSoundTable disk t) → InEntry sound.onie sound.onie.first
first_inside disk t sound = let within = sound.sane.within sound.index sound.onie sound.one.has.has in record { from = omega arith; until = within.ordered }

-- a NOS that may be named has no pending sector
pub settled : (s : State) (U : ℕ → Type 0) (text : List ℕ) (size : Area → ℕ) → IsStart size s U → KeepsRules s U (SetVars text) → (i : ℕ) (e : Entry) → IsNamed s.table text i e → KeepsOff U e
settled s U text size start rules i e named q pends inside = elim (rules e.guid named.names) [
  | inl same ↦ start.off.named i e (record { has = named.has; names = same }) q pends inside
  | inr there ↦ there.settled q pends (subst (λ (f : Entry). InEntry f q) (same_guid s.table i there.index e there.entry start.sound.sane named.has there.has.has (sym there.has.guid)) inside)
]

-- what a run has reached: a start, with ONIE where it was and as it was
pub record Reaches (size : Area → ℕ) (s now : State) (U : ℕ → Type 0) : Type 0 where
  pub start : IsStart size now U
  pub onie : (i : ℕ) (e : Entry) → OnieEntry s.table i e → HasOnieAs now.table e
  pub disk : (i : ℕ) (e : Entry) → OnieEntry s.table i e → (q : ℕ) → InEntry e q → SameSector s.disk now.disk q

-- one effect
pub reaches_one : (size : Area → ℕ) (s : State) (U : ℕ → Type 0) (x : Effect) → IsStart size s U → IsLawful (size Disk) s x → KeepsRules s U x → Reaches size s (after_one s x) (pending_one U x)
reaches_one size s U (Put lba bytes) start lawful rules = record {
  start = record {
    fits = start.fits;
    sound = record {
      sane = start.sound.sane;
      index = start.sound.index;
      onie = start.sound.onie;
      one = start.sound.one;
      image = image_kept s.disk (patch s.disk (512 * lba) bytes) start.sound.onie
          (disk start.sound.index start.sound.onie start.sound.one start.sound.onie.first (first_inside s.disk s.table start.sound)) start.sound.image;
    };
    text = start.text;
    off = record {
      onie = λ i e one q pends inside. ⊎_elim (λ was. start.off.onie i e one q was inside) (λ put. rules.onie i e one q put inside) pends;
      named = λ i e named q pends inside. ⊎_elim (λ was. start.off.named i e named q was inside) (λ put. rules.named i e named q put inside) pends;
    };
  };
  onie = λ i e one. onie_self s.table i e one;
  disk = disk;
}
  where
    disk : (i : ℕ) (e : Entry) → OnieEntry s.table i e → (q : ℕ) → InEntry e q → SameSector s.disk (patch s.disk (512 * lba) bytes) q
    disk i e one q inside = patched_out s.disk lba bytes q lawful.whole (λ put. rules.onie i e one q put inside)
reaches_one size s U Sync start lawful rules = record {
  start = record {
    fits = start.fits;
    sound = start.sound;
    text = start.text;
    off = record { onie = λ i e one q none. absurd none; named = λ i e named q none. absurd none };
  };
  onie = λ i e one. onie_self s.table i e one;
  disk = λ i e one q inside k lt. refl;
}
reaches_one size s U (SetTable t) start lawful rules =
    let there = rules.onie start.sound.index start.sound.onie start.sound.one in
    record {
      start = record {
        fits = fits_next (size Disk - 1) s.table t start.fits lawful;
        sound = record {
          sane = lawful.sane;
          index = there.index;
          onie = there.entry;
          one = there.one;
          image = image_placed s.disk start.sound.onie there.entry there.placed start.sound.image;
        };
        text = start.text;
        off = record { onie = λ i e one q none. absurd none; named = λ i e named q none. absurd none };
      };
      onie = λ i e one. rules.onie i e one;
      disk = λ i e one q inside k lt. refl;
    }
reaches_one size s U (SetVars text) start lawful rules = record {
  start = record {
    fits = start.fits;
    sound = start.sound;
    text = lawful.is;
    off = record { onie = start.off.onie; named = settled s U text size start rules };
  };
  onie = λ i e one. onie_self s.table i e one;
  disk = λ i e one q inside k lt. refl;
}

-- one effect, and then more
reaches_then : (size : Area → ℕ) (s mid now : State) (U V : ℕ → Type 0) → Reaches size s mid U → Reaches size mid now V → Reaches size s now V
reaches_then size s mid now U V one two = record {
  start = two.start;
  onie = λ i e is. let there = one.onie i e is in onie_then now.table e there.entry there.placed (two.onie there.index there.entry there.one);
  disk = λ i e is q inside k lt.
      let there = one.onie i e is in
      two.disk there.index there.entry there.one q (placed_in e there.entry there.placed q inside) k lt ∙ one.disk i e is q inside k lt;
}

reaches_now : (size : Area → ℕ) (s : State) (U : ℕ → Type 0) → IsStart size s U → Reaches size s s U
reaches_now size s U start = record { start = start; onie = λ i e one. onie_self s.table i e one; disk = λ i e one q inside k lt. refl }

-- the first effects of an orderly run
pub reaches : (size : Area → ℕ) (xs : List Effect) (s : State) (U : ℕ → Type 0) → IsStart size s U → AreLawful (size Disk) s xs → AreOrderly s U xs → (k : ℕ) → k ≤ length xs
    → Reaches size s (after s (take k xs)) (pending U (take k xs))
reaches size [] s U start lawful orderly zero le = reaches_now size s U start
reaches size [] s U start lawful orderly (suc k) le = absurd (omega arith)
reaches size (x ∷ xs) s U start lawful orderly zero le = reaches_now size s U start
reaches size (x ∷ xs) s U start lawful orderly (suc k) le =
    let one = reaches_one size s U x start lawful.0 orderly.0 in
    reaches_then size s (after_one s x) (after s (take (suc k) (x ∷ xs))) (pending_one U x) (pending U (take (suc k) (x ∷ xs)))
    one (reaches size xs (after_one s x) (pending_one U x) one.start lawful.1 orderly.1 k (omega arith))
