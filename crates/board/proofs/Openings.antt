-- How a plant is readied: nothing is unsynced, then the copies are repaired, and then the table is tested.
use Rattle.std.proofs.Common.{◌≡◌, ◌⊎◌, inl, inr, ⊎_elim, ℕ, ◌-◌, Option, Some, None, IfSome, Result, Ok, Err, IfOk, refl, sym, ◌∙◌, ap, subst, arith}
use Rattle.bd_dev.specs.declared.plant.Area.{Area}
use Rattle.bd_dev.specs.declared.plant.Area.TheVariants.{Disk, Flash}
use Rattle.bd_dev.specs.Content.{Image}
use Rattle.bd_dev.specs.Plant.{View, IsHonest, IsImage, IsSynced}
use Rattle.boot_vars.specs.Vars.{FitsVars, Vars}
use Rattle.boot_vars.proofs.Kept.{fits_vars_then}
use Rattle.gpt_copy.specs.Copy.{FitsDisk}
use Rattle.gpt_copy.specs.declared.table.Entry.{Entry}
use Rattle.gpt_copy.specs.declared.table.Table.{Table}
use Rattle.bd_dev.specs.Runs.{LeavesOnly, Looks, ReadsOnly}
use Rattle.bd_dev.proofs.Joins.{leaves_then, reads_then}
use Rattle.bd_dev.proofs.Touch.{reads_weaker}
use Rattle.slot_pair.specs.Pair.{IsKept}
use Rattle.storage_model.specs.Disk.{table_of}
use Rattle.storage_model.specs.Entries.{HasEntry, IsSane}
use Rattle.storage_model.specs.Soundness.{IsSoundBoard, IsSoundTable}
use Rattle.storage_model.specs.Variables.{HoldsVariables, kept_in}
use Rattle.soundness.specs.declared.judging.SoundKind.{SoundKind}
use Rattle.soundness.specs.declared.judging.SoundKind.TheVariants as kinds
use Rattle.soundness.specs.Judgement.{IsFaultOf, IsTableFault, IsUnsound, MayHold}
use Rattle.soundness.proofs.Verdicts.{one_reason, sound_not_unsound}
use Rattle.storage_model.specs.Copies.{AgreesOffTable, HasSameTable, IsCleanOpening, OffCopies, ReadsBoth, TouchesCopies}
use Rattle.cuts.specs.Spans.{IsSettledFrom, MayBeOpeningCut, Opens}
use Rattle.cuts.proofs.Copying.{table_of_both}
use Rattle.cuts.proofs.Images.{image_kept}
use Rattle.cuts.proofs.Openings.{IsQuiet, IsSettled, opens_repair, quiet_look, repair_settled, settled_then}
use Rattle.cuts.proofs.Places.{entry_off}
use Rattle.cuts.proofs.Steady.{whole_area}
use Rattle.board.specs.declared.opening.OpenFault.{OpenFault}
use Rattle.board.specs.declared.opening.OpenFault.TheVariants.{Fault, Memory, NotSound}
use Rattle.board.specs.declared.opening.Opened.{Opened}
use Rattle.board.specs.Opening.{IsReady}

-- What lies off the copies is kept: the flash, ONIE's image, and what is wrong with a table.

flash_kept : (size : ℕ) (z c : Image) → AgreesOffTable size z c → c Flash ≡ z Flash
flash_kept size z c agrees = whole_area (z Flash) (c Flash) (λ s. agrees Flash s (λ same. cc))

-- variables that fit do so after a run that touches the copies alone
vars_kept : (old new : View) (vars : Vars) → TouchesCopies old new → FitsVars old vars → FitsVars new vars
vars_kept old new vars touches fits = record {
  pair = record {
    room = omega (arith, touches.continues.size vars.pair.area, fits.pair.room);
    kept = λ tells.
        let told = touches.continues.tells tells in
        let same : new.reads vars.pair.area ≡ old.reads vars.pair.area =
        subst (λ (a : Area). new.reads a ≡ old.reads a) (sym fits.area) (flash_kept (old.size Disk) old.reads new.reads (touches.told told).reads) in
        subst (λ (z : ℕ → ℕ). IsKept 16 z vars.pair) (sym same) (fits.pair.kept told);
  };
  area = fits.area;
  base = fits.base;
  kept = λ tells.
      let told = touches.continues.tells tells in
      (λ i. kept_in (touches.continues.size Flash i) (flash_kept (old.size Disk) old.reads new.reads (touches.told told).reads i)) ∙ fits.kept told;
}

pub some_vars_kept : (old new : View) (vars : Option Vars) → TouchesCopies old new → IfSome vars (FitsVars old) → IfSome vars (FitsVars new)
some_vars_kept old new None touches fits = tt
some_vars_kept old new (Some vars) touches fits = vars_kept old new vars touches fits

-- what the flash held is what it holds after reads alone, and then such a run
pub held_kept : (old mid new : View) (vars : Option Vars) → Looks old mid → TouchesCopies mid new → old.tells → MayHold (old.size Flash) (old.reads Flash) vars → MayHold (new.size Flash) (new.reads Flash) vars
held_kept old mid new vars looks touches tells held =
    let size : old.size Flash ≡ new.size Flash = sym (touches.continues.size Flash ∙ looks.continues.size Flash) in
    let same : old.reads Flash ≡ new.reads Flash =
    sym (flash_kept (mid.size Disk) mid.reads new.reads (touches.told (looks.continues.still_tells tells)).reads ∙ ap (λ (c : Image). c Flash) (looks.told tells).only.reads) in
    subst (λ (T : Type 0). T) (λ i. MayHold (size i) (same i) vars) held

first_off : (size : ℕ) (t : Table) (i : ℕ) (e : Entry) → FitsDisk (size - 1) t → IsSane t → HasEntry t i e → OffCopies size e.first
first_off size t i e fits sane has =
    let within = sane.within i e has in
    (entry_off size t i e fits sane has e.first (record { from = omega arith; until = within.ordered })).off

sound_kept : (size : ℕ) (z c : Image) (t : Table) → FitsDisk (size - 1) t → AgreesOffTable size z c → IsSoundTable (c Disk) t → IsSoundTable (z Disk) t
sound_kept size z c t fits agrees sound = record {
  sane = sound.sane;
  index = sound.index;
  onie = sound.onie;
  one = sound.one;
  image = image_kept (c Disk) (z Disk) sound.onie
      (λ k lt. sym (agrees Disk sound.onie.first (λ same. first_off size t sound.index sound.onie fits sound.sane sound.one.has.has) k lt)) sound.image;
}

fault_kept : (size : Area → ℕ) (z c : Image) (t : Table) (kind : SoundKind) → FitsDisk (size Disk - 1) t → AgreesOffTable (size Disk) z c → IsTableFault size c t kind → IsTableFault size z t kind
fault_kept size z c t kinds.NoTable fits agrees fault = fault
fault_kept size z c t kinds.Entries fits agrees fault = fault
fault_kept size z c t kinds.NoOnie fits agrees fault = fault
fault_kept size z c t kinds.TwoOnie fits agrees fault = fault
fault_kept size z c t kinds.NoImage fits agrees fault = (
  fault.0,
  record {
    index = fault.1.index;
    onie = fault.1.onie;
    one = fault.1.one;
    no_image = λ image. fault.1.no_image (image_kept (z Disk) (c Disk) fault.1.onie
        (agrees Disk fault.1.onie.first (λ same. first_off (size Disk) t fault.1.index fault.1.onie fits fault.0 fault.1.one.has.has)) image);
  },
)
fault_kept size z c t kinds.NoVars fits agrees fault = (
  sound_kept (size Disk) z c t fits agrees fault.0,
  λ kept holds. fault.1 kept (subst (λ (f : ℕ → ℕ). HoldsVariables (size Flash) f kept) (sym (flash_kept (size Disk) z c agrees)) holds),
)

-- the tests find the one reason, or the plant fails
pub exactly : (size : Area → ℕ) (c : Image) (result : Result Opened OpenFault) (kind : SoundKind) → ((k : SoundKind) → result ≡ Err (NotSound k) → IsUnsound size c k) → IfOk result (λ opened. IsSoundBoard size c)
    → IsUnsound size c kind → (result ≡ Err (NotSound kind)) ⊎ ((result ≡ Err Fault) ⊎ (result ≡ Err Memory))
exactly size c (Ok opened) kind reason sound unsound = absurd (sound_not_unsound size c kind sound unsound)
exactly size c (Err (NotSound k)) kind reason sound unsound = inl (ap (λ (l : SoundKind). Err (NotSound l)) (one_reason size c k kind (reason k refl) unsound))
exactly size c (Err Fault) kind reason sound unsound = inr (inl refl)
exactly size c (Err Memory) kind reason sound unsound = inr (inr refl)

-- both syncs, and then reads alone
pub settled_look : (old one mid : View) → old.tells → IsQuiet old one → IsSynced one Disk → IsSynced one Flash → Looks one mid → IsSettled old mid
settled_look old one mid tells quiet disk flash looks =
    settled_then old one mid (record { quiet = quiet; disk = disk; flash = flash }) (quiet_look one mid (quiet.continues.still_tells tells) looks)

-- a run that touches the copies alone, once nothing is unsynced
module _ (old mid new : View) (tells : old.tells) (settled : IsSettled old mid) (touches : TouchesCopies mid new) where
  pub agrees_settled : AgreesOffTable (old.size Disk) old.reads new.reads
  agrees_settled = subst (λ (T : Type 0). T) (λ i. AgreesOffTable (settled.quiet.continues.size Disk i) (settled.quiet.reads i) new.reads) (touches.told (settled.quiet.continues.still_tells tells)).reads

  pub flash_settled : IsSynced new Flash
  flash_settled s un = settled.flash s ((touches.told (settled.quiet.continues.still_tells tells)).unsynced Flash s (λ same. cc) un)

  -- the disk's table was the same when nothing had been done
  pub table_settled : (o : Option Table) → table_of (mid.size Disk) (mid.reads Disk) ≡ o → table_of (old.size Disk) (old.reads Disk) ≡ o
  table_settled o is = sym (λ i. table_of (settled.quiet.continues.size Disk i) (settled.quiet.reads i Disk)) ∙ is

  -- whatever the repair answers
  pub opens_mended : IsHonest new → (mid.tells → LeavesOnly mid new (λ c. IsCleanOpening (mid.size Disk) mid.reads c → HasSameTable (mid.size Disk) mid.reads c))
      → (mid.tells → ReadsOnly mid new (λ c. IsCleanOpening (mid.size Disk) mid.reads c × HasSameTable (mid.size Disk) mid.reads c)) → Opens old new
  opens_mended honest crash between =
      let then = settled.quiet.continues.still_tells tells in
      opens_repair old mid new then settled touches (crash then) honest (reads_weaker mid new _ _ (between then) (λ c both. both.0))

  -- and from the first moment of the repair on a crash leaves cuts alone
  pub settled_mended : (mid.tells → LeavesOnly mid new (λ c. IsCleanOpening (mid.size Disk) mid.reads c → HasSameTable (mid.size Disk) mid.reads c)) → IsSettledFrom old new mid.moment
  settled_mended crash = let then = settled.quiet.continues.still_tells tells in repair_settled old mid new then settled touches (crash then)

  sizes : new.size ≡ old.size
  sizes = λ i a. (touches.continues.size a ∙ settled.quiet.continues.size a) i

  -- and so what is wrong with it is wrong with the board that was there
  pub unsound_settled : (t : Table) (kind : SoundKind) → table_of (mid.size Disk) (mid.reads Disk) ≡ Some t → FitsDisk (new.size Disk - 1) t → IsTableFault new.size new.reads t kind → IsUnsound old.size old.reads kind
  unsound_settled t kind found fits fault = subst (λ (o : Option Table). IsFaultOf old.size old.reads o kind) (sym (table_settled (Some t) found))
      (fault_kept old.size old.reads new.reads t kind (subst (λ (size : Area → ℕ). FitsDisk (size Disk - 1) t) sizes fits) agrees_settled
      (subst (λ (size : Area → ℕ). IsTableFault size new.reads t kind) sizes fault))

  -- and where nothing is wrong, that board was sound
  pub sound_settled : (t : Table) (vars : Option Vars) (result : Result Opened OpenFault) → table_of (mid.size Disk) (mid.reads Disk) ≡ Some t → FitsDisk (new.size Disk - 1) t → MayHold (new.size Flash) (new.reads Flash) vars
      → IfOk result (λ opened. vars ≡ Some opened.vars) → IfOk result (λ opened. IsSoundTable (new.reads Disk) t) → IfOk result (λ opened. IsSoundBoard old.size old.reads)
  sound_settled t vars (Err _) found fits held is sound = tt
  sound_settled t vars (Ok opened) found fits held is sound = record {
    table = t;
    disk = record {
      table = table_settled (Some t) found;
      sound = sound_kept (old.size Disk) old.reads new.reads t (subst (λ (size : Area → ℕ). FitsDisk (size Disk - 1) t) sizes fits) agrees_settled sound;
    };
    kept = record { number = opened.vars.pair.number; content = opened.vars.text };
    variables = subst (MayHold (old.size Flash) (old.reads Flash)) is
        (subst (λ (T : Type 0). T) (λ i. MayHold (sizes i Flash) (flash_kept (old.size Disk) old.reads new.reads agrees_settled i) vars) held);
  }

  -- and after a repair both copies read as it
  module _ (t : Table) (found : table_of (mid.size Disk) (mid.reads Disk) ≡ Some t) (both : ReadsBoth (mid.size Disk) (new.reads Disk) t) (synced : IsSynced new Disk) where
    pub both_settled : ReadsBoth (old.size Disk) (new.reads Disk) t
    both_settled = subst (λ (n : ℕ). ReadsBoth n (new.reads Disk) t) (settled.quiet.continues.size Disk) both

    none_unsynced : (a : Area) (s : ℕ) → new.unsynced a s → ⊥
    none_unsynced Disk s un = synced s un
    none_unsynced Flash s un = flash_settled s un

    clean_copy : (copy : Option Table) (A : Table → Type 0) → copy ≡ Some t → A t → IfSome copy A
    clean_copy copy A is a = subst (λ (o : Option Table). IfSome o A) (sym is) a

    clean_now : IsCleanOpening (old.size Disk) old.reads new.reads
    clean_now = record {
      primary = clean_copy _ _ both_settled.primary (inr (table_settled (Some t) found));
      backup = clean_copy _ _ both_settled.backup (inr (table_settled (Some t) found));
    }

    cut_now : MayBeOpeningCut old.size old.reads new.reads
    cut_now = record {
      table = λ clean. table_of_both (old.size Disk) (new.reads Disk) t both_settled ∙ sym (table_settled (Some t) found);
      variables = ap (λ (z : ℕ → ℕ). kept_in (old.size Flash) z) (flash_kept (old.size Disk) old.reads new.reads agrees_settled);
      sectors = λ q lt off. agrees_settled Disk q (λ same. off);
    }

    cut_image : (c : Image) → IsImage new c → MayBeOpeningCut old.size old.reads c
    cut_image c image = subst (λ (x : Image). MayBeOpeningCut old.size old.reads x) (λ i a. (sym (whole_area (new.reads a) (c a) (λ s. image a s (none_unsynced a s)))) i) cut_now

    pub settled_tested : (last : View) (m : ℕ) → IsSettledFrom old new m → Looks new last → IsSettledFrom old last m
    settled_tested last m from looks =
        let crash = (looks.told (touches.continues.still_tells (settled.quiet.continues.still_tells tells))).crash in
        record {
          from = from.from;
          to = omega (arith, from.to, crash.later);
          cuts = λ c left. ⊎_elim (from.cuts c) (cut_image c) (crash.before m c from.to left);
        }

    -- then a run that only reads
    pub opens_tested : (last : View) → Opens old new → Looks new last → Opens old last
    opens_tested last opens looks =
        let run = looks.told (touches.continues.still_tells (settled.quiet.continues.still_tells tells)) in
        record {
          crash = leaves_then old new last _ (IsImage new) opens.crash run.crash (λ c image. inr (cut_image c image));
          settled = inr (still run.crash opens.settled);
          between = reads_then old new last _ (λ c. c ≡ new.reads) opens.between run.between
              (λ c same. subst (λ (x : Image). IsCleanOpening (old.size Disk) old.reads x × MayBeOpeningCut old.size old.reads x) (sym same) (clean_now, cut_now));
        }
      where
        still : LeavesOnly new last (IsImage new) → LeavesOnly old new (IsImage old) ⊎ ((m : ℕ) × IsSettledFrom old new m) → (m : ℕ) × IsSettledFrom old last m
        still crash (inl only) = (new.moment, record { from = only.later; to = crash.later; cuts = λ c left. cut_image c (crash.each c left) })
        still crash (inr from) = (
          from.0,
          record {
            from = from.1.from;
            to = omega (arith, from.1.to, crash.later);
            cuts = λ c left. ⊎_elim (from.1.cuts c) (cut_image c) (crash.before from.0 c from.1.to left);
          },
        )

-- What passed the tests is ready.
pub ready : (old new : View) (t : Table) (vars : Option Vars) (result : Result Opened OpenFault) → Looks old new → FitsDisk (old.size Disk - 1) t → IfSome vars (FitsVars old) → (old.tells → MayHold (old.size Flash) (old.reads Flash) vars)
    → (old.tells → ReadsBoth (old.size Disk) (old.reads Disk) t) → (old.tells → IsSynced old Disk) → (old.tells → IsSynced old Flash)
    → IfOk result (λ opened. opened.table ≡ t) → IfOk result (λ opened. vars ≡ Some opened.vars) → IfOk result (λ opened. IsSane t) → (old.tells → IfOk result (λ opened. IsSoundTable (old.reads Disk) t))
    → IfOk result (IsReady new)
ready old new t vars (Err _) looks fits fit held both disk flash table is sane sound = tt
ready old new t vars (Ok opened) looks fits fit held both disk flash table is sane sound = subst (λ (x : Table). IsReady new (record { table = x; vars = opened.vars })) (sym table) (record {
  fits = subst (λ (n : ℕ). FitsDisk (n - 1) t) (sym (looks.continues.size Disk)) fits;
  sane = sane;
  variables = fits_vars_then old new opened.vars looks (subst (λ (o : Option Vars). IfSome o (FitsVars old)) is fit);
  text = λ tells. (subst (MayHold (old.size Flash) (old.reads Flash)) is (held (looks.continues.tells tells))).text;
  both = λ tells.
      let told = looks.continues.tells tells in
      subst (λ (T : Type 0). T) (λ i. ReadsBoth (sym (looks.continues.size Disk) i) (sym (looks.told told).only.reads i Disk) t) (both told);
  sound = λ tells.
      let told = looks.continues.tells tells in
      subst (λ (c : Image). IsSoundTable (c Disk) t) (sym (looks.told told).only.reads) (sound told);
  disk = λ tells s un. let told = looks.continues.tells tells in disk told s ((looks.told told).only.unsynced.unsynced Disk s un);
  flash = λ tells s un. let told = looks.continues.tells tells in flash told s ((looks.told told).only.unsynced.unsynced Flash s un);
})
