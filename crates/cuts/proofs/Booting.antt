-- A cut of an orderly run boots.
use Rattle.std.proofs.Common.{◌≡◌, inl, inr, ℕ, zero, suc, ◌+◌, ◌-◌, ◌≤◌, List, [], ◌∷◌, length, take, slice_get, Option, Some, None, sym, subst}
use Rattle.bd_dev.specs.declared.plant.Area.{Area}
use Rattle.bd_dev.specs.declared.plant.Area.TheVariants.{Disk, Flash}
use Rattle.bd_dev.specs.Content.{Image, SameSector}
use Rattle.bd_dev.proofs.Joins.{same_sector_trans}
use Rattle.gpt_copy.specs.declared.table.Entry.{Entry}
use Rattle.gpt_copy.specs.declared.table.Table.{Table}
use Rattle.gpt_copy.specs.Copy.{FitsDisk}
use Rattle.storage_model.specs.Disk.{table_of}
use Rattle.storage_model.specs.Entries.{InEntry, IsSane, OnieEntry}
use Rattle.slot_model.specs.Slots.{Stored}
use Rattle.storage_model.specs.Variables.{IsText, Names, kept_in}
use Rattle.cuts.specs.declared.effect.Effect.{Effect}
use Rattle.cuts.specs.declared.effect.Effect.TheVariants.{Put, Sync, Table as SetTable, Vars as SetVars}
use Rattle.cuts.specs.States.{State, after, after_one, pending, pending_one}
use Rattle.cuts.specs.Cuts.{IsCut, IsCutAt, IsRunning, stored_of}
use Rattle.cuts.specs.Orderly.{AreLawful, AreOrderly, HasOnieAs, IsLawful, IsNamed, KeepsRules}
use Rattle.cuts.specs.Law.{BootsWhole, IsStart}
use Rattle.cuts.proofs.Places.{entry_off, onie_self, onie_then, placed_in}
use Rattle.cuts.proofs.Images.{image_kept, image_placed}
use Rattle.cuts.proofs.Starts.{first_inside, fits_next, reaches, settled}

-- an effect may run in this state, if there is one
abbrev MayRun : (Area → ℕ) → State → (ℕ → Type 0) → Option Effect → Type 0
MayRun size s U None = Unit {0}
MayRun size s U (Some x) = IsLawful (size Disk) s x × KeepsRules s U x

-- the effect at a place of an orderly run
may_run : (size : Area → ℕ) (xs : List Effect) (s : State) (U : ℕ → Type 0) → AreLawful (size Disk) s xs → AreOrderly s U xs → (k : ℕ) → MayRun size (after s (take k xs)) (pending U (take k xs)) (slice_get xs k)
may_run size [] s U lawful orderly zero = tt
may_run size [] s U lawful orderly (suc k) = tt
may_run size (x ∷ xs) s U lawful orderly zero = (lawful.0, orderly.0)
may_run size (x ∷ xs) s U lawful orderly (suc k) = may_run size xs (after_one s x) (pending_one U x) lawful.1 orderly.1 k

-- A table and variables that a cut may read as, of which all is known that the law asks.
record MayReadAs (size : Area → ℕ) (s : State) (U : ℕ → Type 0) (x : Option Effect) (t : Table) (kept : Stored) : Type 0 where
  fits : FitsDisk (size Disk - 1) t
  sane : IsSane t
  onie : (i : ℕ) (e : Entry) → OnieEntry s.table i e → HasOnieAs t e
  text : IsText kept.content
  off_onie : (i : ℕ) (e : Entry) → OnieEntry s.table i e → (q : ℕ) → IsRunning x q → InEntry e q → ⊥
  off_named : (i : ℕ) (e : Entry) → IsNamed t kept.content i e → (q : ℕ) → InEntry e q → (U q → ⊥) × (IsRunning x q → ⊥)

boots_as : (size : Area → ℕ) (s : State) (U : ℕ → Type 0) (x : Option Effect) (c : Image) (t : Table) (kept : Stored) → IsStart size s U → IsCutAt size s U x c
    → table_of (size Disk) (c Disk) ≡ Some t → kept_in (size Flash) (c Flash) ≡ Some kept → MayReadAs size s U x t kept → BootsWhole size s s c
boots_as size s U x c t kept start cut table variables may = record {
  sound = record {
    table = t;
    disk = record {
      table = table;
      sound = record {
        sane = may.sane;
        index = there.index;
        onie = there.entry;
        one = there.one;
        image = image_placed (c Disk) start.sound.onie there.entry there.placed
            (image_kept s.disk (c Disk) start.sound.onie (onie start.sound.index start.sound.onie start.sound.one start.sound.onie.first (first_inside s.disk s.table start.sound)) start.sound.image);
      };
    };
    kept = kept;
    variables = record { is = variables; text = may.text };
  };
  place = may.onie;
  onie = onie;
  nos = λ i e named q inside.
      let free = entry_off (size Disk) t i e may.fits may.sane named.has q inside in
      let apart = may.off_named i e named q inside in
      cut.sectors q free.within free.off apart.0 apart.1;
}
  where
    there : HasOnieAs t start.sound.onie
    there = may.onie start.sound.index start.sound.onie start.sound.one

    onie : (i : ℕ) (e : Entry) → OnieEntry s.table i e → (q : ℕ) → InEntry e q → SameSector s.disk (c Disk) q
    onie i e one q inside =
        let free = entry_off (size Disk) s.table i e start.fits start.sound.sane one.has.has q inside in
        cut.sectors q free.within free.off (λ pends. start.off.onie i e one q pends inside) (λ runs. may.off_onie i e one q runs inside)

-- it reads as the state, while nothing runs that touches ONIE's entry or the named one
reads_as_is : (size : Area → ℕ) (s : State) (U : ℕ → Type 0) (x : Option Effect) → IsStart size s U
    → ((i : ℕ) (e : Entry) → OnieEntry s.table i e → (q : ℕ) → IsRunning x q → InEntry e q → ⊥) → ((i : ℕ) (e : Entry) → IsNamed s.table s.text i e → (q : ℕ) → IsRunning x q → InEntry e q → ⊥)
    → MayReadAs size s U x s.table (stored_of s)
reads_as_is size s U x start off_onie off_named = record {
  fits = start.fits;
  sane = start.sound.sane;
  onie = λ i e one. onie_self s.table i e one;
  text = start.text;
  off_onie = off_onie;
  off_named = λ i e named q inside. (λ pends. start.off.named i e named q pends inside, λ runs. off_named i e named q runs inside);
}

cut_boots : (size : Area → ℕ) (s : State) (U : ℕ → Type 0) (x : Option Effect) (c : Image) → IsStart size s U → MayRun size s U x → IsCutAt size s U x c → BootsWhole size s s c
cut_boots size s U None c start may cut = boots_as size s U None c s.table (stored_of s) start cut cut.table cut.variables
    (reads_as_is size s U None start (λ i e one q none. absurd none) (λ i e named q none. absurd none))
cut_boots size s U (Some (Put lba bytes)) c start may cut = boots_as size s U (Some (Put lba bytes)) c s.table (stored_of s) start cut cut.table cut.variables
    (reads_as_is size s U (Some (Put lba bytes)) start may.1.onie may.1.named)
cut_boots size s U (Some Sync) c start may cut = boots_as size s U (Some Sync) c s.table (stored_of s) start cut cut.table cut.variables
    (reads_as_is size s U (Some Sync) start (λ i e one q none. absurd none) (λ i e named q none. absurd none))
cut_boots size s U (Some (SetTable t)) c start may cut = elim cut.table [
  | inl old ↦ boots_as size s U (Some (SetTable t)) c s.table (stored_of s) start cut old cut.variables
      (reads_as_is size s U (Some (SetTable t)) start (λ i e one q none. absurd none) (λ i e named q none. absurd none))
  | inr new ↦ boots_as size s U (Some (SetTable t)) c t (stored_of s) start cut new cut.variables (record {
    fits = fits_next (size Disk - 1) s.table t start.fits may.0;
    sane = may.0.sane;
    onie = may.1.onie;
    text = start.text;
    off_onie = λ i e one q none. absurd none;
    off_named = λ i e named q inside.
        let was = may.1.named i e named in
        let named_there : IsNamed s.table s.text was.index was.entry = record { has = was.has; names = subst (Names s.text) (sym was.placed.guid) named.names } in
        (λ pends. start.off.named was.index was.entry named_there q pends (placed_in e was.entry was.placed q inside), λ none. absurd none);
  })
]
cut_boots size s U (Some (SetVars text)) c start may cut = elim cut.variables [
  | inl old ↦ boots_as size s U (Some (SetVars text)) c s.table (stored_of s) start cut cut.table old
      (reads_as_is size s U (Some (SetVars text)) start (λ i e one q none. absurd none) (λ i e named q none. absurd none))
  | inr new ↦ boots_as size s U (Some (SetVars text)) c s.table (record { number = s.number + 1; content = text }) start cut cut.table new (record {
    fits = start.fits;
    sane = start.sound.sane;
    onie = λ i e one. onie_self s.table i e one;
    text = may.0.is;
    off_onie = λ i e one q none. absurd none;
    off_named = λ i e named q inside. (λ pends. settled s U text size start may.1 i e named q pends inside, λ none. absurd none);
  })
]

-- the law
pub boots : (size : Area → ℕ) (s : State) (U : ℕ → Type 0) (xs : List Effect) → IsStart size s U → AreLawful (size Disk) s xs → AreOrderly s U xs → (k : ℕ) → k ≤ length xs
    → (c : Image) → IsCut size s U xs k c → BootsWhole size s (after s (take k xs)) c
boots size s U xs start lawful orderly k le c cut =
    let now = after s (take k xs) in
    let then = reaches size xs s U start lawful orderly k le in
    let here = cut_boots size now (pending U (take k xs)) (slice_get xs k) c then.start (may_run size xs s U lawful orderly k) cut in
    record {
      sound = here.sound;
      place = λ i e one. let there = then.onie i e one in onie_then here.sound.table e there.entry there.placed (here.place there.index there.entry there.one);
      onie = λ i e one q inside.
          let there = then.onie i e one in
          same_sector_trans s.disk now.disk (c Disk) q (then.disk i e one q inside) (here.onie there.index there.entry there.one q (placed_in e there.entry there.placed q inside));
      nos = here.nos;
    }
