-- How runs of `set` and `unset` end.
use Rattle.std.proofs.Common.{◌≡◌, ◌≢◌, ◌⊎◌, inl, inr, ⊎_elim, ℕ, ◌+◌, ◌≤◌, List, [], Option, Some, None, Result, Ok, Err, Bool, true, false, cond, is_none, refl, sym, ◌∙◌, ap, subst, arith}
use Rattle.std.specs.Prelude.{IsSome, OnOk}
use Rattle.std.proofs.lemmas.Bool.{cases_Bool}
use Rattle.std.proofs.lemmas.Option.{same_Some}
use Rattle.bd_dev.specs.declared.plant.Area.TheVariants.{Flash}
use Rattle.bd_dev.specs.Content.{Image, SameSector}
use Rattle.bd_dev.specs.Plant.{View, IsHonest, IsImage, IsSynced, Passes, ReadsBetween, Syncs}
use Rattle.boot_vars.specs.declared.fault.VarFault.{VarFault}
use Rattle.boot_vars.specs.declared.fault.VarFault.TheVariants as faults
use Rattle.boot_vars.specs.declared.fault.VarsFault.{VarsFault}
use Rattle.boot_vars.specs.declared.fault.VarsFault.TheVariants as opening
use Rattle.boot_vars.specs.Setting.{Changes, IsAnswer, IsDurable, changed, set_refusal, unset_refusal, with_variable, without}
use Rattle.boot_vars.specs.Vars.{Vars}
use Rattle.boot_vars.proofs.BadLines.{no_bad_line}
use Rattle.boot_vars.proofs.Changing.{kept_frame}
use Rattle.bd_dev.specs.Runs.{LeavesOnly, Looks}
use Rattle.bd_dev.specs.Touching.{Touches}
use Rattle.bd_dev.proofs.Joins.{leaves_call, leaves_now, leaves_then}
use Rattle.bd_dev.proofs.Touch.{leaves_weaker, touch_look, touch_sync, touch_then}
use Rattle.slot_pair.specs.Putting.{IsEither, stored}
use Rattle.soundness.specs.declared.judging.SoundKind.TheVariants as sounds
use Rattle.slot_model.specs.Slots.{Stored}
use Rattle.storage_model.specs.Variables.{HoldsVariables, IsBadLine, IsText, Spells, Variable, kept_in, lines_of, value_among}
use Rattle.bd_dev.specs.Faults.{HasCauseOr, Rose}
use Rattle.bd_dev.proofs.Appending.{Appends-same}
use Rattle.storage_model.specs.Tests.{variables_in}
use Rattle.storage_model.proofs.Lines.{listed}
use Rattle.onie_modes.specs.Course.{Course, ends, the_plant}
use Rattle.onie_modes.specs.Devices.{Devices, with_plant}
use Rattle.onie_modes.specs.Running.{BrokeOff, Runs}
use Rattle.onie_modes.specs.declared.exit.RefusedKind.{RefusedKind}
use Rattle.onie_modes.specs.declared.exit.RefusedKind.TheVariants as refusals
use Rattle.onie_modes.proofs.Ends.{all_counted, broke_before, rose, stayed, still}
use Rattle.onie_modes.specs.declared.exit.Outcome.TheVariants as outcomes
use Rattle.onie_modes.specs.declared.exit.Status.{Status}
use Rattle.onie_modes.specs.declared.exit.Status.TheVariants as statuses
use Rattle.onie_cli.specs.Set.{Change, ChangesFlash, Holds, IsKindOf, IsMade, IsSettled, IsUnwritten, KeepsEither, LeavesEither, LeavesFlash, changes_flash, kept_by, made as changes_made, none as changes_none, refused as changes_refused, set_change, unchanged_of, unopened_of, unset_change}

-- the status of a change by its answer
abbrev pub status_of : Result Unit VarFault → Status
status_of (Ok done) = statuses.Done outcomes.Stored
status_of (Err fault) = unchanged_of fault

-- ---- answers

-- variables that are not there are refused as such
pub unopened_is : (fault : VarsFault) → fault ≢ opening.Fault → unopened_of fault ≡ statuses.NotSound sounds.NoVars
unopened_is opening.NoSlot other = refl
unopened_is (opening.BadLine at) other = refl
unopened_is opening.Fault other = absurd (other refl)

not_done : (fault : VarFault) → unchanged_of fault ≢ statuses.Done outcomes.Stored
not_done faults.BadName is = cc
not_done faults.BadText is = cc
not_done faults.VarsFull is = cc
not_done faults.SeqEnd is = cc
not_done faults.Fault is = cc

done_is : (r : Result Unit VarFault) (P : Type 0) → OnOk r P → status_of r ≡ statuses.Done outcomes.Stored → P
done_is (Ok done) P p is = p
done_is (Err fault) P p is = absurd (not_done fault is)

-- an answer tells the reason
refused_for : (o : Option VarFault) (fault : VarFault) → fault ≢ faults.Fault → IsAnswer o (Err fault) → o ≡ Some fault
refused_for None fault other (inl is) = absurd cc
refused_for None fault other (inr is) = absurd (other cc)
refused_for (Some why) fault other is = cc

done_for : (o : Option VarFault) (done : Unit {0}) → IsAnswer o (Ok done) → o ≡ None
done_for None done is = refl
done_for (Some why) done is = absurd cc

-- what the flash keeps is one thing
one_kept : (v : View) (a b : Stored) → HoldsVariables (v.size Flash) (v.reads Flash) a → HoldsVariables (v.size Flash) (v.reads Flash) b → a ≡ b
one_kept v a b one two = same_Some a b (sym one.is ∙ two.is)

-- a synced flash keeps in each image what it keeps
kept_in_image : (old : View) (c : Image) → IsSynced old Flash → IsImage old c → kept_in (old.size Flash) (c Flash) ≡ kept_by old
kept_in_image old c synced image = kept_frame (old.size Flash) (old.reads Flash) (c Flash) (λ s lt. image Flash s (synced s))

of_synced : (kept : Stored) (after : Option Stored) (old new : View) → HoldsVariables (old.size Flash) (old.reads Flash) kept → IsSynced old Flash → LeavesEither kept after old new → KeepsEither kept after old new
of_synced kept after old new holds synced leaves = leaves_weaker old new _ _ leaves (λ c either.
    ⊎_elim (λ image. inl (kept_in_image old c synced image ∙ holds.is)) (λ one. one) either)

-- ---- one course

-- a text spells one list of variables
one_spelling : (text : List ℕ) (vs us : List Variable) → Spells text vs → Spells text us → vs ≡ us
one_spelling text vs us one other = sym (listed [] vs one.variables) ∙ ap variables_in (sym one.lines ∙ other.lines) ∙ listed [] us other.variables

-- a refusal of this fault is of one kind
one_kind : (fault : VarFault) (j k : RefusedKind) → IsKindOf fault j → IsKindOf fault k → j ≡ k
one_kind faults.BadName j k h i = h ∙ sym i
one_kind faults.BadText j k h i = h ∙ sym i
one_kind faults.VarsFull j k h i = h ∙ sym i
one_kind faults.SeqEnd j k h i = h ∙ sym i
one_kind faults.Fault j k h i = absurd h

only_none : (change : Change) (v : View) (c : Course) → ((kept : Stored) → ¬ HoldsVariables (v.size Flash) (v.reads Flash) kept) → ChangesFlash change v c
    → c ≡ ends the_plant (statuses.NotSound sounds.NoVars)
only_none change v course absent (changes_none h) = refl
only_none change v course absent (changes_refused kept vs fault kind holds why is) = absurd (absent kept holds.holds)
only_none change v course absent (changes_made kept vs holds why) = absurd (absent kept holds.holds)

-- the reason for what is kept, whichever variables it spells
same_reason : (change : Change) (v : View) (kept other : Stored) (vs us : List Variable) → Holds v kept vs → Holds v other us → change.refusal other us ≡ change.refusal kept vs
same_reason change v kept other vs us one two =
    let same : other ≡ kept = one_kept v other kept two.holds one.holds in
    let same_vs : us ≡ vs = one_spelling kept.content us vs (subst (λ (k : Stored). Spells k.content us) same two.spells) one.spells in
    λ i. change.refusal (same i) (same_vs i)

only_refused : (change : Change) (v : View) (kept : Stored) (vs : List Variable) (fault : VarFault) (kind : RefusedKind) (c : Course) → Holds v kept vs → change.refusal kept vs ≡ Some fault → IsKindOf fault kind
    → ChangesFlash change v c → c ≡ ends the_plant (statuses.Refused kind)
only_refused change v kept vs fault kind course holds why is (changes_none h) = absurd (h kept holds.holds)
only_refused change v kept vs fault kind course holds why is (changes_refused other us because sort others reason sorted) =
    let same : because ≡ fault = same_Some because fault (sym reason ∙ same_reason change v kept other vs us holds others ∙ why) in
    ap (λ (k : RefusedKind). ends the_plant (statuses.Refused k)) (one_kind fault sort kind (subst (λ (f : VarFault). IsKindOf f sort) same sorted) is)
only_refused change v kept vs fault kind course holds why is (changes_made other us others reason) =
    absurd (let both : None ≡ Some fault = sym reason ∙ same_reason change v kept other vs us holds others ∙ why in cc)

only_made : (change : Change) (v : View) (kept : Stored) (vs : List Variable) (c : Course) → Holds v kept vs → change.refusal kept vs ≡ None → ChangesFlash change v c
    → c ≡ ends the_plant (statuses.Done outcomes.Stored)
only_made change v kept vs course holds why (changes_none h) = absurd (h kept holds.holds)
only_made change v kept vs course holds why (changes_refused other us because sort others reason sorted) =
    absurd (let both : Some because ≡ None = sym reason ∙ same_reason change v kept other vs us holds others ∙ why in cc)
only_made change v kept vs course holds why (changes_made other us others reason) = refl

calls_it : (change : Change) (v : View) (c : Course) → ChangesFlash change v c → c.calls ≡ the_plant
calls_it change v course (changes_none h) = refl
calls_it change v course (changes_refused kept vs fault kind holds why is) = refl
calls_it change v course (changes_made kept vs holds why) = refl

-- ---- what is left

leaves_settled : (change : Change) (old new : View) (end : Status) → IsSettled old new → (end ≡ statuses.Done outcomes.Stored → ⊥) → LeavesFlash change old new end
leaves_settled change old new end settled undone = record {
  touches = settled.touches;
  none = λ tells absent. (settled.unwritten tells, settled.crash tells);
  unwritten = λ kept vs tells holds is. (settled.unwritten tells, settled.crash tells);
  made = λ kept vs tells holds is. absurd (undone is);
  crash = λ kept vs tells holds. leaves_weaker old new _ _ (settled.crash tells) (λ c image. inl image);
  crash_of_synced = λ kept vs tells holds synced. of_synced kept (change.after kept vs) old new holds.holds synced (leaves_weaker old new _ _ (settled.crash tells) (λ c image. inl image));
}

-- ---- a change whose variables were not opened

broke_unread : (change : Change) (old new : View) (d : Devices) (c : Course) → Rose old.faults new.faults → d.plant ≡ old.faults → ChangesFlash change old c
    → BrokeOff (changes_flash change old new) c d (with_plant d new.faults) statuses.PlantFault
broke_unread change old new d c failed same comes =
    broke_before (changes_flash change old new) c d (with_plant d new.faults) statuses.PlantFault (record { called = rw (calls_it change old c comes) refl; counted = rw same failed }) refl refl refl tt

not_opened : (change : Change) (old new : View) (d : Devices) (fault : VarsFault) → d.plant ≡ old.faults → IsSettled old new → new.faults ≡ old.faults
    → ((kept : Stored) → old.tells → ¬ HoldsVariables (old.size Flash) (old.reads Flash) kept)
    → Runs (changes_flash change old new) d (with_plant d new.faults) (statuses.NotSound sounds.NoVars)
not_opened change old new d fault same settled quiet absent = record {
  counts = all_counted d (with_plant d new.faults) (statuses.NotSound sounds.NoVars) (stayed _ _ _ _ (quiet ∙ sym same)) (still _ _ _) (still _ _ _) (still _ _ _) (still _ _ _) (still _ _ _);
  ends = inl refl;
  went = λ answers tells. record {
    course = ends the_plant (statuses.NotSound sounds.NoVars);
    comes = (tells, changes_none (λ kept. absent kept tells));
    only = λ other comes. only_none change old other (λ kept. absent kept tells) comes.1;
    took = record { is = refl; console = Appends-same _; trace = Appends-same _; eeprom = refl; plant = tt };
  };
  broken = λ breaks. absurd breaks;
  silent = λ e. refl;
  leaves = leaves_settled change old new _ settled (λ e. cc);
}

pub ends_unopened : {T : Type 0} (change : Change) (old new : View) (d : Devices) (fault : VarsFault) → d.plant ≡ old.faults → IsSettled old new
    → HasCauseOr {T = T} opening.Fault old.faults new.faults (Err fault)
    → ((kept : Stored) → old.tells → fault ≢ opening.Fault → ¬ HoldsVariables (old.size Flash) (old.reads Flash) kept)
    → Runs (changes_flash change old new) d (with_plant d new.faults) (unopened_of fault)
ends_unopened change old new d opening.NoSlot same settled cause absent = not_opened change old new d opening.NoSlot same settled (cause.quiet (λ e. cc)) (λ kept tells. absent kept tells (λ e. cc))
ends_unopened change old new d (opening.BadLine at) same settled cause absent = not_opened change old new d (opening.BadLine at) same settled (cause.quiet (λ e. cc)) (λ kept tells. absent kept tells (λ e. cc))
ends_unopened change old new d opening.Fault same settled cause absent = record {
  counts = all_counted d (with_plant d new.faults) statuses.PlantFault (rose _ _ _ (rw same cause.later)) (still _ _ _) (still _ _ _) (still _ _ _) (still _ _ _) (still _ _ _);
  ends = inr (record { called = refl; counted = rw same (cause.failed refl) });
  went = λ answers. absurd answers;
  broken = λ breaks c comes. broke_unread change old new d c (cause.failed refl) same comes.1;
  silent = λ e. refl;
  leaves = leaves_settled change old new _ settled (λ e. cc);
}

-- A change of the variables that were opened: what it does to the plant, and its answer, for those variables.
pub record Made (change : Change) (mid new : View) (kept : Stored) (r : Result Unit VarFault) : Type 1 where
  pub answer : (vs : List Variable) → Spells kept.content vs → IsAnswer (change.refusal kept vs) r
  pub touches : Touches Flash 0 34 mid new
  pub refused : (vs : List Variable) → Spells kept.content vs → IsSome (change.refusal kept vs) ⊎ (change.after kept vs ≡ Some kept) → new ≡ mid
  pub done : (vs : List Variable) → Spells kept.content vs → mid.tells → OnOk r (IsMade (change.after kept vs) new)
  pub crash : (vs : List Variable) → Spells kept.content vs → mid.tells → LeavesOnly mid new (λ c. IsEither (Some kept) (change.after kept vs) (kept_in (mid.size Flash) (c Flash)))

-- what a change leaves, whatever its answer
leaves_made : (change : Change) (old mid new : View) (kept : Stored) (r : Result Unit VarFault) → IsSettled old mid → (old.tells → HoldsVariables (old.size Flash) (old.reads Flash) kept) → Made change mid new kept r
    → LeavesFlash change old new (status_of r)
leaves_made change old mid new kept r settled held change_made = record {
  touches = touch_then Flash 0 34 old mid new settled.touches change_made.touches;
  none = λ tells absent. absurd (absent kept (held tells));
  unwritten = λ other vs tells holds is.
      let same = one_kept old kept other (held tells) holds.holds in
      let here = change_made.refused vs (subst (λ (k : Stored). Spells k.content vs) (sym same) holds.spells) (subst (λ (k : Stored). IsSome (change.refusal k vs) ⊎ (change.after k vs ≡ Some k)) (sym same) is) in
      subst (λ (v : View). IsUnwritten old v × LeavesOnly old v (IsImage old)) (sym here) (settled.unwritten tells, settled.crash tells);
  made = λ other vs tells holds is.
      let same = one_kept old kept other (held tells) holds.holds in
      let mid_tells = settled.touches.continues.still_tells tells in
      subst (λ (k : Stored). IsMade (change.after k vs) new) same
      (done_is r _ (change_made.done vs (subst (λ (k : Stored). Spells k.content vs) (sym same) holds.spells) mid_tells) is);
  crash = λ other vs tells holds. crash_is other vs tells holds;
  crash_of_synced = λ other vs tells holds synced. of_synced other (change.after other vs) old new holds.holds synced (crash_is other vs tells holds);
}
  where
    crash_is : (other : Stored) (vs : List Variable) → old.tells → Holds old other vs → LeavesEither other (change.after other vs) old new
    crash_is other vs tells holds =
        let same = one_kept old kept other (held tells) holds.holds in
        let mid_tells = settled.touches.continues.still_tells tells in
        let then = change_made.crash vs (subst (λ (k : Stored). Spells k.content vs) (sym same) holds.spells) mid_tells in
        subst (λ (k : Stored). LeavesEither k (change.after k vs) old new) same
        (leaves_then old mid new _ _ (leaves_weaker old mid _ _ (settled.crash tells) (λ c image. inl image)) then
        (λ c either. inr (subst (λ (n : ℕ). IsEither (Some kept) (change.after kept vs) (kept_in n (c Flash))) (settled.touches.continues.size Flash) either)))

-- a refused change
refuses : (change : Change) (old mid new : View) (d : Devices) (kept : Stored) (fault : VarFault) (kind : RefusedKind) → d.plant ≡ old.faults → IsSettled old mid
    → (old.tells → HoldsVariables (old.size Flash) (old.reads Flash) kept) → IsText kept.content → Made change mid new kept (Err fault) → new.faults ≡ old.faults → fault ≢ faults.Fault
    → IsKindOf fault kind → unchanged_of fault ≡ statuses.Refused kind → Runs (changes_flash change old new) d (with_plant d new.faults) (statuses.Refused kind)
refuses change old mid new d kept fault kind same settled held text change_made quiet other is status = record {
  counts = all_counted d (with_plant d new.faults) (statuses.Refused kind) (stayed _ _ _ _ (quiet ∙ sym same)) (still _ _ _) (still _ _ _) (still _ _ _) (still _ _ _) (still _ _ _);
  ends = inl (fault, is);
  went = λ answers tells.
      let holds : Holds old kept text.0 = record { holds = held tells; spells = text.1 } in
      let why = refused_for (change.refusal kept text.0) fault other (change_made.answer text.0 text.1) in record {
        course = ends the_plant (statuses.Refused kind);
        comes = (tells, changes_refused kept text.0 fault kind holds why is);
        only = λ others comes. only_refused change old kept text.0 fault kind others holds why is comes.1;
        took = record { is = refl; console = Appends-same _; trace = Appends-same _; eeprom = refl; plant = tt };
      };
  broken = λ breaks. absurd breaks;
  silent = λ e. refl;
  leaves = subst (λ (s : Status). LeavesFlash change old new s) status (leaves_made change old mid new kept (Err fault) settled held change_made);
}

-- a change of variables that were opened, by its answer
pub ends_changed : (change : Change) (old mid new : View) (d : Devices) (kept : Stored) (r : Result Unit VarFault) → d.plant ≡ old.faults → IsSettled old mid
    → (old.tells → HoldsVariables (old.size Flash) (old.reads Flash) kept) → IsText kept.content → Made change mid new kept r → mid.faults ≡ old.faults → HasCauseOr faults.Fault mid.faults new.faults r
    → Runs (changes_flash change old new) d (with_plant d new.faults) (status_of r)
ends_changed change old mid new d kept (Ok done) same settled held text change_made opened cause = record {
  counts = all_counted d (with_plant d new.faults) (statuses.Done outcomes.Stored) (stayed _ _ _ _ (cause.quiet (λ e. cc) ∙ opened ∙ sym same)) (still _ _ _) (still _ _ _) (still _ _ _) (still _ _ _) (still _ _ _);
  ends = inl refl;
  went = λ answers tells.
      let holds : Holds old kept text.0 = record { holds = held tells; spells = text.1 } in
      let why = done_for (change.refusal kept text.0) done (change_made.answer text.0 text.1) in record {
        course = ends the_plant (statuses.Done outcomes.Stored);
        comes = (tells, changes_made kept text.0 holds why);
        only = λ others comes. only_made change old kept text.0 others holds why comes.1;
        took = record { is = refl; console = Appends-same _; trace = Appends-same _; eeprom = refl; plant = tt };
      };
  broken = λ breaks. absurd breaks;
  silent = λ e. refl;
  leaves = leaves_made change old mid new kept (Ok done) settled held change_made;
}
ends_changed change old mid new d kept (Err faults.BadName) same settled held text change_made opened cause =
    refuses change old mid new d kept faults.BadName refusals.BadName same settled held text change_made (cause.quiet (λ e. cc) ∙ opened) (λ e. cc) refl refl
ends_changed change old mid new d kept (Err faults.BadText) same settled held text change_made opened cause =
    refuses change old mid new d kept faults.BadText refusals.BadText same settled held text change_made (cause.quiet (λ e. cc) ∙ opened) (λ e. cc) refl refl
ends_changed change old mid new d kept (Err faults.VarsFull) same settled held text change_made opened cause =
    refuses change old mid new d kept faults.VarsFull refusals.VarsFull same settled held text change_made (cause.quiet (λ e. cc) ∙ opened) (λ e. cc) refl refl
ends_changed change old mid new d kept (Err faults.SeqEnd) same settled held text change_made opened cause =
    refuses change old mid new d kept faults.SeqEnd refusals.SeqEnd same settled held text change_made (cause.quiet (λ e. cc) ∙ opened) (λ e. cc) refl refl
ends_changed change old mid new d kept (Err faults.Fault) same settled held text change_made opened cause =
    let later : d.plant ≤ new.faults = rw same (let le = cause.later in omega (arith, le, opened)) in
    let failed : Rose d.plant new.faults = rw same (subst (λ (n : ℕ). Rose n new.faults) opened (cause.failed refl)) in record {
      counts = all_counted d (with_plant d new.faults) statuses.PlantFault (rose _ _ _ later) (still _ _ _) (still _ _ _) (still _ _ _) (still _ _ _) (still _ _ _);
      ends = inr (record { called = refl; counted = failed });
      went = λ answers. absurd answers;
      broken = λ breaks c comes. broke_before (changes_flash change old new) c d (with_plant d new.faults) statuses.PlantFault (record { called = rw (calls_it change old c comes.1) refl; counted = failed }) refl refl refl tt;
      silent = λ e. refl;
      leaves = leaves_made change old mid new kept (Err faults.Fault) settled held change_made;
    }

-- an image after a sync of the flash is one before it
images_of : (old mid : View) → Syncs Flash old mid → (c : Image) → IsImage mid c → IsImage old c
images_of old mid syncs c image a s synced = subst (λ (z : Image). SameSector (z a) (c a) s) syncs.reads (image a s (λ un. synced (syncs.unsynced a s un)))

pub settled_by : {T E : Type 0} {result : Result T E} (old mid new : View) → IsHonest old → Passes old mid → (old.tells → ReadsBetween result old mid) → (old.tells → Syncs Flash old mid) → Looks mid new → IsSettled old new
settled_by old mid new honest passes between syncs looks = record {
  touches = touch_then Flash 0 34 old mid new (touch_sync Flash 0 34 old mid honest passes between syncs) (touch_look Flash 0 34 mid new looks);
  unwritten = λ tells.
      let run = looks.told (passes.still_tells tells) in
      record { reads = run.only.reads ∙ (syncs tells).reads; writes = run.only.writes ∙ (syncs tells).writes };
  crash = λ tells.
      leaves_then old mid new (IsImage old) (IsImage mid)
      (leaves_call old mid (IsImage old) honest tells passes (between tells) (λ c image. image) (images_of old mid (syncs tells)))
      (looks.told (passes.still_tells tells)).crash (images_of old mid (syncs tells));
}

-- where the flash holds variables, they are opened unless the plant fails
pub not_unopened : (old mid : View) (kept : Stored) (fault : VarsFault) → mid.size Flash ≡ old.size Flash → mid.reads ≡ old.reads → HoldsVariables (old.size Flash) (old.reads Flash) kept
    → (fault ≡ opening.NoSlot → kept_by mid ≡ None)
    → ((at : ℕ) → fault ≡ opening.BadLine at → (other : Stored) × (kept_by mid ≡ Some other) × IsBadLine other.content at)
    → unopened_of fault ≢ statuses.NotSound sounds.NoVars
not_unopened old mid kept opening.NoSlot size reads holds no_slot bad_line e =
    let here : kept_by mid ≡ Some kept = (λ i. kept_in (size i) (reads i Flash)) ∙ holds.is in
    let none = no_slot refl in
    let wrong : Some kept ≡ None = sym here ∙ none in
    cc
not_unopened old mid kept (opening.BadLine at) size reads holds no_slot bad_line e =
    let here : kept_by mid ≡ Some kept = (λ i. kept_in (size i) (reads i Flash)) ∙ holds.is in
    let bad = bad_line at refl in
    let same : bad.0 ≡ kept = same_Some bad.0 kept (sym bad.1 ∙ here) in
    no_bad_line kept.content at holds.text (subst (λ (k : Stored). IsBadLine k.content at) same bad.2)
not_unopened old mid kept opening.Fault size reads holds no_slot bad_line e = cc

OnOk-two : {T E P Q R : Type 0} (r : Result T E) → (P → Q → R) → OnOk r P → OnOk r Q → OnOk r R
OnOk-two (Ok x) f p q = f p q
OnOk-two (Err e) f p q = p

-- what variables keep, as a slot holds it
abbrev pub kept_of : Vars → Stored
kept_of vars = record { number = vars.pair.number; content = vars.text }

-- the variables after a change are what the flash keeps
is_made : (new : View) (vars later : Vars) (text : List ℕ) → new.tells → later ≡ changed vars text → IsDurable new later → IsMade (stored (vars.pair.number + 1) text) new
is_made new vars later text tells same durable = record {
  kept = durable.fits.kept tells ∙ (λ i. Some (record { number = (same i).pair.number; content = (same i).text }));
  synced = durable.synced tells;
}

not_same : (kept : Stored) (text : List ℕ) → stored (kept.number + 1) text ≡ Some kept → ⊥
not_same kept text same =
    let number : kept.number + 1 ≡ kept.number = ap (λ (s : Stored). s.number) (same_Some _ kept same) in
    omega (arith, number)

pub made_by_set : (mid new : View) (vars later : Vars) (v : Variable) (r : Result Unit VarFault) → IsDurable mid vars
    → ((vs : List Variable) → Spells vars.text vs → IsAnswer (set_refusal vs vars.pair.number v) r)
    → ((vs : List Variable) → Spells vars.text vs → IsSome (set_refusal vs vars.pair.number v) → new ≡ mid)
    → ((vs : List Variable) → Spells vars.text vs → OnOk r (later ≡ changed vars (lines_of (with_variable vs v))))
    → OnOk r (IsDurable new later)
    → ((vs : List Variable) → Spells vars.text vs → Changes vars (lines_of (with_variable vs v)) mid new)
    → IsText vars.text
    → Made (set_change v) mid new (kept_of vars) r
made_by_set mid new vars later v r before answer held_back set durable changes text = record {
  answer = answer;
  touches = (changes text.0 text.1).touches;
  refused = λ vs spells is. ⊎_elim (held_back vs spells) (λ same. absurd (not_same (kept_of vars) (lines_of (with_variable vs v)) same)) is;
  done = λ vs spells tells. OnOk-two r (is_made new vars later (lines_of (with_variable vs v)) ((changes vs spells).touches.continues.still_tells tells)) (set vs spells) durable;
  crash = λ vs spells tells.
      subst (λ (o : Option Stored). LeavesOnly mid new (λ c. IsEither o (stored (vars.pair.number + 1) (lines_of (with_variable vs v))) (kept_in (mid.size Flash) (c Flash)))) (before.fits.kept tells)
      ((changes vs spells).crash tells);
}

absent_is : (o : Option (List ℕ)) → is_none o ≡ true → o ≡ None
absent_is None none = refl
absent_is (Some x) none = absurd (cc)

present_is : (o : Option (List ℕ)) → is_none o ≡ false → IsSome o
present_is None some = absurd (cc)
present_is (Some x) some = some_is x
  where
    some_is : (x : List ℕ) → IsSome (Some x)
    some_is x = refl

pub made_by_unset : (mid new : View) (vars later : Vars) (name : List ℕ) (r : Result Unit VarFault) → IsHonest mid → IsDurable mid vars
    → ((vs : List Variable) → Spells vars.text vs → IsAnswer (unset_refusal vs vars.pair.number name) r)
    → ((vs : List Variable) → Spells vars.text vs → IsSome (unset_refusal vs vars.pair.number name) → new ≡ mid)
    → ((vs : List Variable) → Spells vars.text vs → value_among vs name ≡ None → new ≡ mid)
    → ((vs : List Variable) → Spells vars.text vs → IsSome (value_among vs name) → OnOk r (later ≡ changed vars (lines_of (without vs name))))
    → OnOk r (IsDurable new later)
    → ((vs : List Variable) → Spells vars.text vs → Changes vars (lines_of (without vs name)) mid new)
    → IsText vars.text
    → Made (unset_change name) mid new (kept_of vars) r
made_by_unset mid new vars later name r honest before answer held_back absent unset durable changes text = record {
  answer = answer;
  touches = (changes text.0 text.1).touches;
  refused = λ vs spells is. ⊎_elim (held_back vs spells) (left_as vs spells) is;
  done = λ vs spells tells. elim (cases_Bool (is_none (value_among vs name))) [
    | inl none ↦
        let same = absent vs spells (absent_is (value_among vs name) none) in
        let here : IsMade (Some (kept_of vars)) mid = record { kept = before.fits.kept tells; synced = before.synced tells } in
        let there = subst (λ (v : View). IsMade (Some (kept_of vars)) v) (sym same) here in
        subst (λ (b : Bool). OnOk r (IsMade (cond b (Some (kept_of vars)) (stored (vars.pair.number + 1) (lines_of (without vs name)))) new)) (sym none) (OnOk-always r there)
    | inr some ↦
        subst (λ (b : Bool). OnOk r (IsMade (cond b (Some (kept_of vars)) (stored (vars.pair.number + 1) (lines_of (without vs name)))) new)) (sym some)
        (OnOk-two r (is_made new vars later (lines_of (without vs name)) ((changes vs spells).touches.continues.still_tells tells)) (unset vs spells (present_is (value_among vs name) some)) durable)
  ];
  crash = λ vs spells tells. elim (cases_Bool (is_none (value_among vs name))) [
    | inl none ↦
        let same = absent vs spells (absent_is (value_among vs name) none) in
        let here = leaves_now mid (λ c. IsEither (Some (kept_of vars)) (Some (kept_of vars)) (kept_in (mid.size Flash) (c Flash))) honest tells (λ c image. inl (kept_in_image mid c (before.synced tells) image ∙ before.fits.kept tells)) in
        subst (λ (b : Bool). LeavesOnly mid new (λ c. IsEither (Some (kept_of vars)) (cond b (Some (kept_of vars)) (stored (vars.pair.number + 1) (lines_of (without vs name)))) (kept_in (mid.size Flash) (c Flash)))) (sym none)
        (subst (λ (v : View). LeavesOnly mid v (λ c. IsEither (Some (kept_of vars)) (Some (kept_of vars)) (kept_in (mid.size Flash) (c Flash)))) (sym same) here)
    | inr some ↦
        subst (λ (b : Bool). LeavesOnly mid new (λ c. IsEither (Some (kept_of vars)) (cond b (Some (kept_of vars)) (stored (vars.pair.number + 1) (lines_of (without vs name)))) (kept_in (mid.size Flash) (c Flash)))) (sym some)
        (subst (λ (o : Option Stored). LeavesOnly mid new (λ c. IsEither o (stored (vars.pair.number + 1) (lines_of (without vs name))) (kept_in (mid.size Flash) (c Flash)))) (before.fits.kept tells) ((changes vs spells).crash tells))
  ];
}
  where
    OnOk-always : {T E P : Type 0} (r : Result T E) → P → OnOk r P
    OnOk-always (Ok x) p = p
    OnOk-always (Err e) p = tt

    left_as : (vs : List Variable) → Spells vars.text vs → (unset_change name).after (kept_of vars) vs ≡ Some (kept_of vars) → new ≡ mid
    left_as vs spells is = elim (cases_Bool (is_none (value_among vs name))) [
      | inl none ↦ absent vs spells (absent_is (value_among vs name) none)
      | inr some ↦
          absurd (not_same (kept_of vars) (lines_of (without vs name))
          (subst (λ (b : Bool). cond b (Some (kept_of vars)) (stored (vars.pair.number + 1) (lines_of (without vs name))) ≡ Some (kept_of vars)) some is))
    ]
