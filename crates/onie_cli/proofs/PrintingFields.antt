-- How runs of `eeprom` end.
use Rattle.std.proofs.Common.{◌≡◌, ◌≢◌, inl, inr, ℕ, ◌≤◌, List, Option, Some, Err, true, refl, sym, ap, subst, ◌∙◌}
use Rattle.std.specs.Prelude.{IsTrue}
use Rattle.std.specs.Option.{ForSome}
use Rattle.std.proofs.lemmas.Option.{same_Some}
use Rattle.bd_dev.specs.Faults.{HasCauseOr, Rose}
use Rattle.bd_dev.specs.Sink.{Appends, AppendsFront}
use Rattle.bd_dev.proofs.Appending.{Appends-same}
use Rattle.bd_dev.proofs.Lines.{Appends-front}
use Rattle.onie_modes.specs.Console.{AppendsLines}
use Rattle.onie_modes.specs.Course.{Course, and_console, ends, prints, the_eeprom}
use Rattle.onie_modes.specs.Devices.{Devices, Seen, TheEeprom, with_console, with_eeprom}
use Rattle.onie_modes.specs.Identity.{IsTlv, IsUnreadable, load_status}
use Rattle.onie_modes.specs.Running.{Breaks, BrokeOff, Runs}
use Rattle.onie_modes.specs.declared.exit.EepromKind.{EepromKind}
use Rattle.onie_modes.specs.declared.exit.EepromKind.TheVariants as eeproms
use Rattle.onie_modes.specs.declared.exit.Outcome.TheVariants as outcomes
use Rattle.onie_modes.specs.declared.exit.Status.{Status}
use Rattle.onie_modes.specs.declared.exit.Status.TheVariants as statuses
use Rattle.onie_modes.specs.declared.identity.LoadFault.{LoadFault}
use Rattle.onie_modes.specs.declared.identity.LoadFault.TheVariants as loads
use Rattle.onie_modes.proofs.Boards.{unreadable-or_fields, unreadable-unique}
use Rattle.onie_modes.proofs.Ends.{all_counted, broke_before, rose, stayed, still, told_of}
use Rattle.tlvinfo.specs.TlvInfo.{Field, Tlv}
use Rattle.tlvinfo.proofs.Uniqueness.{Tlv-unique}
use Rattle.onie_cli.specs.Eeprom.{IsEepromEnd, PrintsBytes, fields_text, prints_fields, readable, unreadable}

-- ---- one course

pub same_bytes : (eeprom : Option (List ℕ)) (one other : List ℕ) → eeprom ≡ Some one → eeprom ≡ Some other → one ≡ other
same_bytes eeprom one other told told_too = same_Some one other (sym told ∙ told_too)

only_unreadable : (eeprom : Option (List ℕ)) (bytes : List ℕ) (kind : EepromKind) (c : Course) → eeprom ≡ Some bytes → IsUnreadable bytes kind → PrintsBytes eeprom c
    → c ≡ ends the_eeprom (statuses.BadEeprom kind)
only_unreadable eeprom bytes kind course held is (unreadable other why told h) =
    ap (λ (k : EepromKind). ends the_eeprom (statuses.BadEeprom k)) (unreadable-unique bytes why kind (subst (λ (b : List ℕ). IsUnreadable b why) (same_bytes eeprom other bytes told held) h) is)
only_unreadable eeprom bytes kind course held is (readable other fields told tlv) =
    absurd (unreadable-or_fields bytes kind fields is (subst (λ (b : List ℕ). Tlv b fields) (same_bytes eeprom other bytes told held) tlv))

only_readable : (eeprom : Option (List ℕ)) (fields : List Field) (c : Course) → ForSome eeprom (λ bytes. Tlv bytes fields) → PrintsBytes eeprom c → c ≡ prints (and_console the_eeprom) (fields_text fields)
only_readable eeprom fields course found (unreadable bytes kind told h) = absurd (unreadable-or_fields bytes kind fields h (found bytes told))
only_readable eeprom fields course found (readable bytes others told tlv) =
    ap (λ (fs : List Field). prints (and_console the_eeprom) (fields_text fs)) (Tlv-unique bytes others fields tlv (found bytes told))

calls_it : (eeprom : Option (List ℕ)) (c : Course) → PrintsBytes eeprom c → IsTrue (c.calls TheEeprom)
calls_it eeprom course (unreadable bytes kind told h) = refl
calls_it eeprom course (readable bytes fields told tlv) = refl

tlv_end : (kind : EepromKind) → IsTlv kind → IsEepromEnd (statuses.BadEeprom kind)
tlv_end (eeproms.Tlv kind) is = tt
tlv_end (eeproms.Ident fault) is = absurd is

-- ---- the ends

pub ends_without_fields : {T : Type 0} (d : Devices) (eeprom : Seen (List ℕ)) (fault : LoadFault)
    → HasCauseOr {T = T} loads.Failed d.eeprom.faults eeprom.faults (Err fault) → eeprom.holds ≡ d.eeprom.holds
    → ((kind : EepromKind) → fault ≡ loads.Bad kind → ForSome d.eeprom.holds (λ bytes. IsUnreadable bytes kind)) → ((kind : EepromKind) → fault ≡ loads.Bad kind → IsTlv kind)
    → Runs prints_fields d (with_eeprom d eeprom) (load_status fault)
ends_without_fields d eeprom loads.Failed cause kept refused tlv = record {
  counts = all_counted d (with_eeprom d eeprom) statuses.EepromFault (still _ _ _) (rose _ _ _ cause.later) (still _ _ _) (still _ _ _) (still _ _ _) (still _ _ _);
  ends = inr (record { called = refl; counted = cause.failed refl });
  went = λ answers. absurd answers;
  broken = λ breaks c comes. broke_before prints_fields c d (with_eeprom d eeprom) statuses.EepromFault (record { called = calls_it _ c comes; counted = cause.failed refl }) refl refl kept tt;
  silent = λ e. refl;
  leaves = tt;
}
ends_without_fields d eeprom loads.Memory cause kept refused tlv = record {
  counts = all_counted d (with_eeprom d eeprom) statuses.Memory (still _ _ _) (stayed _ _ _ _ (cause.quiet (λ e. cc))) (still _ _ _) (still _ _ _) (still _ _ _) (still _ _ _);
  ends = inr refl;
  went = λ answers. absurd answers;
  broken = λ breaks c comes. broke_before prints_fields c d (with_eeprom d eeprom) statuses.Memory refl refl refl kept tt;
  silent = λ e. refl;
  leaves = tt;
}
ends_without_fields d eeprom (loads.Bad kind) cause kept refused tlv = record {
  counts = all_counted d (with_eeprom d eeprom) (statuses.BadEeprom kind) (still _ _ _) (stayed _ _ _ _ (cause.quiet (λ e. cc))) (still _ _ _) (still _ _ _) (still _ _ _) (still _ _ _);
  ends = inl (tlv_end kind (tlv kind refl));
  went = λ answers told.
      let held = told_of d.eeprom.holds told in record {
        course = ends the_eeprom (statuses.BadEeprom kind);
        comes = unreadable held.0 kind held.1 (refused kind refl held.0 held.1);
        only = λ other comes. only_unreadable _ held.0 kind other held.1 (refused kind refl held.0 held.1) comes;
        took = record { is = refl; console = Appends-same _; trace = Appends-same _; eeprom = kept; plant = tt };
      };
  broken = λ breaks. absurd breaks;
  silent = λ e. refl;
  leaves = tt;
}

-- what the EEPROM is where its fields were found
pub record Loaded (d : Devices) (eeprom : Seen (List ℕ)) (fields : List Field) : Type 0 where
  pub found : ForSome d.eeprom.holds (λ bytes. Tlv bytes fields)
  pub kept : eeprom.holds ≡ d.eeprom.holds
  pub quiet : eeprom.faults ≡ d.eeprom.faults

pub ends_printed : (d : Devices) (eeprom console : Seen (List ℕ)) (fields : List Field) → Loaded d eeprom fields → console.faults ≡ d.console.faults
    → Appends d.console.holds console.holds (fields_text fields) → Runs prints_fields d (with_eeprom (with_console d console) eeprom) (statuses.Done outcomes.Printed)
ends_printed d eeprom console fields loaded quiet text = record {
  counts = all_counted d (with_eeprom (with_console d console) eeprom) (statuses.Done outcomes.Printed) (still _ _ _) (stayed _ _ _ _ loaded.quiet) (still _ _ _) (still _ _ _) (stayed _ _ _ _ quiet) (still _ _ _);
  ends = inl refl;
  went = λ answers told.
      let held = told_of d.eeprom.holds told in record {
        course = prints (and_console the_eeprom) (fields_text fields);
        comes = readable held.0 fields held.1 (loaded.found held.0 held.1);
        only = λ other comes. only_readable _ fields other loaded.found comes;
        took = record { is = refl; console = text; trace = Appends-same _; eeprom = loaded.kept; plant = tt };
      };
  broken = λ breaks. absurd breaks;
  silent = λ e. absurd cc;
  leaves = tt;
}

broke_in : (d : Devices) (eeprom console : Seen (List ℕ)) (fields : List Field) (end : Status) (c : Course) → Loaded d eeprom fields
    → end ≢ statuses.PlantFault → Breaks (and_console the_eeprom) true d (with_eeprom (with_console d console) eeprom) end → AppendsFront d.console.holds console.holds (fields_text fields)
    → (end ≢ statuses.SinkFault → AppendsLines d.console.holds console.holds (fields_text fields)) → PrintsBytes d.eeprom.holds c
    → BrokeOff prints_fields c d (with_eeprom (with_console d console) eeprom) end
broke_in d eeprom console fields end c loaded no_plant why front lines comes =
    let new = with_eeprom (with_console d console) eeprom in
    let here : BrokeOff prints_fields (prints (and_console the_eeprom) (fields_text fields)) d new end = record {
      why = why;
      front = front;
      begins = λ failed. absurd (no_plant failed);
      plant = tt;
      lines = λ in_lines other. lines other;
      trace = Appends-front _ _ _ (Appends-same _);
      eeprom = λ none. loaded.kept;
    } in
    subst (λ (x : Course). BrokeOff prints_fields x d new end) (sym (only_readable _ fields c loaded.found comes)) here

pub ends_unprinted : (d : Devices) (eeprom console : Seen (List ℕ)) (fields : List Field) → Loaded d eeprom fields → d.console.faults ≤ console.faults → Rose d.console.faults console.faults
    → AppendsFront d.console.holds console.holds (fields_text fields) → Runs prints_fields d (with_eeprom (with_console d console) eeprom) statuses.SinkFault
ends_unprinted d eeprom console fields loaded later failed front = record {
  counts = all_counted d (with_eeprom (with_console d console) eeprom) statuses.SinkFault (still _ _ _) (stayed _ _ _ _ loaded.quiet) (still _ _ _) (still _ _ _) (rose _ _ _ later) (still _ _ _);
  ends = inr (inl (record { called = refl; counted = failed }));
  went = λ answers. absurd answers;
  broken = λ breaks c comes. broke_in d eeprom console fields statuses.SinkFault c loaded (λ e. cc) (inl (record { called = refl; counted = failed })) front (λ other. absurd (other refl)) comes;
  silent = λ e. absurd cc;
  leaves = tt;
}

pub ends_unremembered : (d : Devices) (eeprom console : Seen (List ℕ)) (fields : List Field) → Loaded d eeprom fields → console.faults ≡ d.console.faults
    → AppendsFront d.console.holds console.holds (fields_text fields) → AppendsLines d.console.holds console.holds (fields_text fields)
    → Runs prints_fields d (with_eeprom (with_console d console) eeprom) statuses.Memory
ends_unremembered d eeprom console fields loaded quiet front lines = record {
  counts = all_counted d (with_eeprom (with_console d console) eeprom) statuses.Memory (still _ _ _) (stayed _ _ _ _ loaded.quiet) (still _ _ _) (still _ _ _) (stayed _ _ _ _ quiet) (still _ _ _);
  ends = inr refl;
  went = λ answers. absurd answers;
  broken = λ breaks c comes. broke_in d eeprom console fields statuses.Memory c loaded (λ e. cc) refl front (λ other. lines) comes;
  silent = λ e. absurd cc;
  leaves = tt;
}
