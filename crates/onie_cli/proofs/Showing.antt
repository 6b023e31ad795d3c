-- How runs of `status` end.
use Rattle.std.proofs.Common.{◌≡◌, inl, inr, ℕ, ◌≤◌, List, refl, sym, ap, subst, ◌∙◌}
use Rattle.std.specs.Prelude.{IsTrue, option_map}
use Rattle.std.proofs.lemmas.Option.{same_Some}
use Rattle.bd_dev.specs.Faults.{Rose}
use Rattle.bd_dev.specs.Plant.{View}
use Rattle.bd_dev.specs.Sink.{Appends, AppendsFront}
use Rattle.bd_dev.proofs.Appending.{Appends-same}
use Rattle.bd_dev.proofs.Lines.{Appends-front}
use Rattle.gpt_copy.specs.declared.table.Table.{Table}
use Rattle.onie_modes.specs.Course.{Course, and_console, ends, prints, the_plant}
use Rattle.onie_modes.specs.Devices.{Devices, Seen, ThePlant, with_console, with_plant}
use Rattle.onie_modes.specs.Running.{BrokeOff, Runs}
use Rattle.onie_modes.specs.declared.exit.Outcome.TheVariants as outcomes
use Rattle.onie_modes.specs.declared.exit.Status.TheVariants as statuses
use Rattle.onie_modes.proofs.Ends.{all_counted, broke_before, rose, stayed, still}
use Rattle.slot_model.specs.Slots.{Stored}
use Rattle.soundness.specs.Booting.{IsBoot}
use Rattle.soundness.specs.Judgement.{IsJudged, IsUnsound}
use Rattle.soundness.specs.declared.judging.Sound.{Sound}
use Rattle.soundness.specs.declared.judging.SoundKind.{SoundKind}
use Rattle.soundness.specs.declared.outcome.Boots.{Boots}
use Rattle.soundness.specs.declared.outcome.Boots.TheVariants as boots
use Rattle.soundness.proofs.Verdicts.{sound_not_unsound}
use Rattle.storage_model.specs.Disk.{Found}
use Rattle.storage_model.specs.Soundness.{IsSoundBoard}
use Rattle.storage_model.proofs.BootLemmas.{nos_is, onie_is}
use Rattle.onie_cli.specs.Status.{Holds, ShowsBoard, shows_board, sound, text_for, unsound}

-- ---- one course

one_boot : (t : Table) (text : List ℕ) (a b : Boots) → IsBoot t text a → IsBoot t text b → a ≡ b
one_boot t text (boots.Onie m) (boots.Onie n) one other = let e = sym (onie_is t text m one) ∙ onie_is t text n other in cc
one_boot t text (boots.Onie m) (boots.Nos g) one other = absurd (let e = sym (onie_is t text m one) ∙ nos_is t text g other in cc)
one_boot t text (boots.Nos g) (boots.Onie m) one other = absurd (let e = sym (nos_is t text g one) ∙ onie_is t text m other in cc)
one_boot t text (boots.Nos g) (boots.Nos h) one other = let e = sym (nos_is t text g one) ∙ nos_is t text h other in cc

one_text : (v : View) (f g : Found) (kept other : Stored) (a b : Boots) → Holds v f kept a → Holds v g other b → text_for f a ≡ text_for g b
one_text v f g kept other a b one two =
    let same : f ≡ g = same_Some f g (sym one.table ∙ two.table) in
    let same_kept : kept ≡ other = same_Some kept other (sym one.variables.is ∙ two.variables.is) in
    let same_boot : a ≡ b = one_boot g.table other.content a b (subst (λ (k : Stored). IsBoot g.table k.content a) same_kept (subst (λ (x : Found). IsBoot x.table kept.content a) same one.boot)) two.boot in
    λ i. text_for (same i) (same_boot i)

only_unsound : (v : View) (kind : SoundKind) (c : Course) → IsUnsound v.size v.reads kind → ((k : SoundKind) → IsUnsound v.size v.reads k → k ≡ kind) → ShowsBoard v c → c ≡ ends the_plant (statuses.NotSound kind)
only_unsound v kind course is only (unsound k h) = ap (λ (s : SoundKind). ends the_plant (statuses.NotSound s)) (only k h)
only_unsound v kind course is only (sound f kept b s holds) = absurd (sound_not_unsound v.size v.reads kind s is)

only_sound : (v : View) (f : Found) (kept : Stored) (b : Boots) (c : Course) → IsSoundBoard v.size v.reads → Holds v f kept b → ShowsBoard v c → c ≡ prints (and_console the_plant) (text_for f b)
only_sound v f kept b course is holds (unsound k h) = absurd (sound_not_unsound v.size v.reads k is h)
only_sound v f kept b course is holds (sound g other a s others) = ap (prints (and_console the_plant)) (one_text v g f other kept a b others holds)

-- ---- what a judged board is

abbrev pub found_by : Sound → Found
found_by s = record { table = s.table; copy = s.copy }

abbrev pub kept_by : Sound → Stored
kept_by s = record { number = s.vars.pair.number; content = s.vars.text }

judged_sound : (v : View) (s : Sound) → IsJudged v.size v.reads s → IsSoundBoard v.size v.reads
judged_sound v s judged = record {
  table = s.table;
  disk = record { table = ap (option_map (λ (f : Found). f.table)) judged.found; sound = judged.sound };
  kept = kept_by s;
  variables = judged.variables;
}

judged_holds : (v : View) (s : Sound) (b : Boots) → IsJudged v.size v.reads s → IsBoot s.table s.vars.text b → Holds v (found_by s) (kept_by s) b
judged_holds v s b judged boot = record { table = judged.found; variables = judged.variables; boot = boot }

-- ---- the ends

pub ends_unsound : (v : View) (d : Devices) (plant : ℕ) (kind : SoundKind) → plant ≡ d.plant → (v.tells → IsUnsound v.size v.reads kind)
    → (v.tells → (k : SoundKind) → IsUnsound v.size v.reads k → k ≡ kind) → Runs (shows_board v) d (with_plant d plant) (statuses.NotSound kind)
ends_unsound v d plant kind same is only = record {
  counts = all_counted d (with_plant d plant) (statuses.NotSound kind) (stayed _ _ _ _ same) (still _ _ _) (still _ _ _) (still _ _ _) (still _ _ _) (still _ _ _);
  ends = inl tt;
  went = λ answers tells. record {
    course = ends the_plant (statuses.NotSound kind);
    comes = (tells, unsound kind (is tells));
    only = λ other comes. only_unsound v kind other (is tells) (only tells) comes.1;
    took = record { is = refl; console = Appends-same _; trace = Appends-same _; eeprom = refl; plant = tt };
  };
  broken = λ breaks. absurd breaks;
  silent = λ e. refl;
  leaves = tt;
}

calls_the_plant : (v : View) (c : Course) → ShowsBoard v c → IsTrue (c.calls ThePlant)
calls_the_plant v course (unsound k h) = refl
calls_the_plant v course (sound f kept b s holds) = refl

pub ends_unread : (v : View) (d : Devices) (plant : ℕ) → d.plant ≤ plant → Rose d.plant plant → Runs (shows_board v) d (with_plant d plant) statuses.PlantFault
ends_unread v d plant later failed = record {
  counts = all_counted d (with_plant d plant) statuses.PlantFault (rose _ _ _ later) (still _ _ _) (still _ _ _) (still _ _ _) (still _ _ _) (still _ _ _);
  ends = inr (record { called = refl; counted = failed });
  went = λ answers. absurd answers;
  broken = λ breaks c comes. broke_before (shows_board v) c d (with_plant d plant) statuses.PlantFault (record { called = calls_the_plant v c comes.1; counted = failed }) refl refl refl tt;
  silent = λ e. refl;
  leaves = tt;
}

pub ends_shown : (v : View) (d : Devices) (plant : ℕ) (console : Seen (List ℕ)) (s : Sound) (b : Boots) → plant ≡ d.plant → console.faults ≡ d.console.faults
    → (v.tells → IsJudged v.size v.reads s) → IsBoot s.table s.vars.text b → Appends d.console.holds console.holds (text_for (found_by s) b)
    → Runs (shows_board v) d (with_plant (with_console d console) plant) (statuses.Done outcomes.Printed)
ends_shown v d plant console s b same quiet judged boot text = record {
  counts = all_counted d (with_plant (with_console d console) plant) (statuses.Done outcomes.Printed) (stayed _ _ _ _ same) (still _ _ _) (still _ _ _) (still _ _ _) (stayed _ _ _ _ quiet) (still _ _ _);
  ends = inl refl;
  went = λ answers tells.
      let is = judged_sound v s (judged tells) in
      let holds = judged_holds v s b (judged tells) boot in
      record {
        course = prints (and_console the_plant) (text_for (found_by s) b);
        comes = (tells, sound (found_by s) (kept_by s) b is holds);
        only = λ other comes. only_sound v (found_by s) (kept_by s) b other is holds comes.1;
        took = record { is = refl; console = text; trace = Appends-same _; eeprom = refl; plant = tt };
      };
  broken = λ breaks. absurd breaks;
  silent = λ e. absurd cc;
  leaves = tt;
}

pub ends_unshown : (v : View) (d : Devices) (plant : ℕ) (console : Seen (List ℕ)) (s : Sound) (b : Boots) → plant ≡ d.plant → d.console.faults ≤ console.faults → Rose d.console.faults console.faults
    → (v.tells → IsJudged v.size v.reads s) → IsBoot s.table s.vars.text b → AppendsFront d.console.holds console.holds (text_for (found_by s) b)
    → Runs (shows_board v) d (with_plant (with_console d console) plant) statuses.SinkFault
ends_unshown v d plant console s b same later failed judged boot front =
    let new = with_plant (with_console d console) plant in record {
      counts = all_counted d new statuses.SinkFault (stayed _ _ _ _ same) (still _ _ _) (still _ _ _) (still _ _ _) (rose _ _ _ later) (still _ _ _);
      ends = inr (inl (record { called = refl; counted = failed }));
      went = λ answers. absurd answers;
      broken = λ breaks c comes.
          let is = judged_sound v s (judged comes.0) in
          let holds = judged_holds v s b (judged comes.0) boot in
          let here : BrokeOff (shows_board v) (prints (and_console the_plant) (text_for (found_by s) b)) d new statuses.SinkFault = record {
            why = inl (record { called = refl; counted = failed });
            front = front;
            begins = λ e. absurd cc;
            plant = tt;
            lines = λ in_lines other. absurd (other refl);
            trace = Appends-front _ _ _ (Appends-same _);
            eeprom = λ none. refl;
          } in
          subst (λ (x : Course). BrokeOff (shows_board v) x d new statuses.SinkFault) (sym (only_sound v (found_by s) (kept_by s) b c is holds comes.1)) here;
      silent = λ e. absurd cc;
      leaves = tt;
    }
