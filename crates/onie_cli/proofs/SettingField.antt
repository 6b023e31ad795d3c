-- How runs of `eeprom set` end.
use Rattle.std.proofs.Common.{◌≡◌, inl, inr, ℕ, ◌≤◌, ◌<◌, List, [], ◌∷◌, ◌++◌, take, drop, length, Option, Some, Err, refl, sym, ap, subst, ◌∙◌, arith}
use Rattle.std.specs.Prelude.{IsTrue, option_map}
use Rattle.bd_dev.specs.Eeprom.{Stores}
use Rattle.std.specs.Option.{ForSome}
use Rattle.bd_dev.specs.Faults.{HasCauseOr, Rose}
use Rattle.bd_dev.proofs.Appending.{Appends-same}
use Rattle.onie_modes.specs.Course.{Course, ends, stores, the_eeprom}
use Rattle.onie_modes.specs.Devices.{Devices, Seen, TheEeprom, with_eeprom}
use Rattle.onie_modes.specs.Identity.{IsTlv, IsUnreadable, load_status}
use Rattle.onie_modes.specs.Running.{BrokeOff, Runs}
use Rattle.onie_modes.specs.declared.exit.EepromKind.{EepromKind}
use Rattle.onie_modes.specs.declared.exit.EepromKind.TheVariants as eeproms
use Rattle.onie_modes.specs.declared.exit.Outcome.TheVariants as outcomes
use Rattle.onie_modes.specs.declared.exit.RefusedKind.{RefusedKind}
use Rattle.onie_modes.specs.declared.exit.RefusedKind.TheVariants as refusals
use Rattle.onie_modes.specs.declared.exit.Status.TheVariants as statuses
use Rattle.onie_modes.specs.declared.identity.LoadFault.{LoadFault}
use Rattle.onie_modes.specs.declared.identity.LoadFault.TheVariants as loads
use Rattle.onie_modes.proofs.Boards.{unreadable-or_fields, unreadable-unique}
use Rattle.onie_modes.proofs.Ends.{all_counted, broke_before, front_of_none, rose, stayed, still, told_of}
use Rattle.onie_modes.proofs.WholeLines.{no_lines}
use Rattle.tlvinfo.specs.Encoding.{overwritten}
use Rattle.tlvinfo.specs.TlvInfo.{Field, Tlv, spelling}
use Rattle.tlvinfo.proofs.Uniqueness.{Tlv-unique}
use Rattle.onie_cli.specs.EepromSet.{Changes, IsFieldRefusal, IsRefusedChange, IsSetFieldEnd, IsStorable, SetsBytes, allowed, no_fields, refused, sets_field}
use Rattle.onie_cli.proofs.PrintingFields.{Loaded, same_bytes}

-- ---- one course

only_no_fields : (code : ℕ) (text : List ℕ) (eeprom : Option (List ℕ)) (bytes : List ℕ) (kind : EepromKind) (c : Course) → eeprom ≡ Some bytes → IsUnreadable bytes kind
    → SetsBytes code text eeprom c → c ≡ ends the_eeprom (statuses.BadEeprom kind)
only_no_fields code text eeprom bytes kind course held is (no_fields other why told h) =
    ap (λ (k : EepromKind). ends the_eeprom (statuses.BadEeprom k)) (unreadable-unique bytes why kind (subst (λ (b : List ℕ). IsUnreadable b why) (same_bytes eeprom other bytes told held) h) is)
only_no_fields code text eeprom bytes kind course held is (refused other why told h) =
    absurd (unreadable-or_fields bytes kind h.fields is (subst (λ (b : List ℕ). Tlv b h.fields) (same_bytes eeprom other bytes told held) h.tlv))
only_no_fields code text eeprom bytes kind course held is (allowed other changed told h) =
    absurd (unreadable-or_fields bytes kind h.fields is (subst (λ (b : List ℕ). Tlv b h.fields) (same_bytes eeprom other bytes told held) h.tlv))

-- a change is refused for one reason
one_reason : (code : ℕ) (text : List ℕ) (fields : List Field) (j k : RefusedKind) → IsRefusedChange code text fields j → IsRefusedChange code text fields k → j ≡ k
one_reason code text fields refusals.BadCode refusals.BadCode h i = refl
one_reason code text fields refusals.BadCode refusals.BadValue h i = absurd (i.0 h)
one_reason code text fields refusals.BadCode refusals.TooLong h i = absurd (i.1.no_checksum h)
one_reason code text fields refusals.BadCode refusals.BadName h i = absurd i
one_reason code text fields refusals.BadCode refusals.BadText h i = absurd i
one_reason code text fields refusals.BadCode refusals.VarsFull h i = absurd i
one_reason code text fields refusals.BadCode refusals.SeqEnd h i = absurd i
one_reason code text fields refusals.BadValue refusals.BadCode h i = absurd (h.0 i)
one_reason code text fields refusals.BadValue refusals.BadValue h i = refl
one_reason code text fields refusals.BadValue refusals.TooLong h i = absurd (h.1 i.1.value i.1.spells)
one_reason code text fields refusals.BadValue refusals.BadName h i = absurd i
one_reason code text fields refusals.BadValue refusals.BadText h i = absurd i
one_reason code text fields refusals.BadValue refusals.VarsFull h i = absurd i
one_reason code text fields refusals.BadValue refusals.SeqEnd h i = absurd i
one_reason code text fields refusals.TooLong refusals.BadCode h i = absurd (h.1.no_checksum i)
one_reason code text fields refusals.TooLong refusals.BadValue h i = absurd (i.1 h.1.value h.1.spells)
one_reason code text fields refusals.TooLong refusals.TooLong h i = refl
one_reason code text fields refusals.TooLong refusals.BadName h i = absurd i
one_reason code text fields refusals.TooLong refusals.BadText h i = absurd i
one_reason code text fields refusals.TooLong refusals.VarsFull h i = absurd i
one_reason code text fields refusals.TooLong refusals.SeqEnd h i = absurd i
one_reason code text fields refusals.BadName k h i = absurd h
one_reason code text fields refusals.BadText k h i = absurd h
one_reason code text fields refusals.VarsFull k h i = absurd h
one_reason code text fields refusals.SeqEnd k h i = absurd h

refusal_end : (code : ℕ) (text : List ℕ) (fields : List Field) (kind : RefusedKind) → IsRefusedChange code text fields kind → IsFieldRefusal kind
refusal_end code text fields refusals.BadCode h = tt
refusal_end code text fields refusals.BadValue h = tt
refusal_end code text fields refusals.TooLong h = tt
refusal_end code text fields refusals.BadName h = absurd h
refusal_end code text fields refusals.BadText h = absurd h
refusal_end code text fields refusals.VarsFull h = absurd h
refusal_end code text fields refusals.SeqEnd h = absurd h

only_refused : (code : ℕ) (text : List ℕ) (eeprom : Option (List ℕ)) (fields : List Field) (kind : RefusedKind) (c : Course) → ForSome eeprom (λ bytes. Tlv bytes fields)
    → IsRefusedChange code text fields kind → ((changed : List Field) → IsStorable code text fields changed → ⊥) → SetsBytes code text eeprom c → c ≡ ends the_eeprom (statuses.Refused kind)
only_refused code text eeprom fields kind course found is none (no_fields bytes why told h) = absurd (unreadable-or_fields bytes why fields h (found bytes told))
only_refused code text eeprom fields kind course found is none (refused bytes why told h) =
    let same = Tlv-unique bytes h.fields fields h.tlv (found bytes told) in
    ap (λ (k : RefusedKind). ends the_eeprom (statuses.Refused k)) (one_reason code text fields why kind (subst (λ (fs : List Field). IsRefusedChange code text fs why) same h.why) is)
only_refused code text eeprom fields kind course found is none (allowed bytes changed told h) =
    let same = Tlv-unique bytes h.fields fields h.tlv (found bytes told) in
    absurd (none changed (subst (λ (fs : List Field). IsStorable code text fs changed) same h.storable))

-- a change that can be stored is refused for no reason
not_refused : (code : ℕ) (text : List ℕ) (fields changed : List Field) (kind : RefusedKind) → IsStorable code text fields changed
    → ((other : List Field) → Changes code text fields other → other ≡ changed) → IsRefusedChange code text fields kind → ⊥
not_refused code text fields changed refusals.BadCode is only h = is.changes.no_checksum h
not_refused code text fields changed refusals.BadValue is only h = h.1 is.changes.value is.changes.spells
not_refused code text fields changed refusals.TooLong is only h =
    let same = only h.0 h.1 in
    let long : 2048 < length (spelling changed) = subst (λ (fs : List Field). 2048 < length (spelling fs)) same h.2 in
    let fits = is.fits in
    omega (arith, long, fits)
not_refused code text fields changed refusals.BadName is only h = absurd h
not_refused code text fields changed refusals.BadText is only h = absurd h
not_refused code text fields changed refusals.VarsFull is only h = absurd h
not_refused code text fields changed refusals.SeqEnd is only h = absurd h

only_allowed : (code : ℕ) (text : List ℕ) (eeprom : Option (List ℕ)) (fields changed : List Field) (c : Course) → ForSome eeprom (λ bytes. Tlv bytes fields)
    → IsStorable code text fields changed → ((other : List Field) → Changes code text fields other → other ≡ changed) → SetsBytes code text eeprom c
    → (bytes : List ℕ) × (eeprom ≡ Some bytes) × (c ≡ stores the_eeprom (overwritten (spelling changed) bytes))
only_allowed code text eeprom fields changed course found is only (no_fields bytes why told h) = absurd (unreadable-or_fields bytes why fields h (found bytes told))
only_allowed code text eeprom fields changed course found is only (refused bytes why told h) =
    let same = Tlv-unique bytes h.fields fields h.tlv (found bytes told) in
    absurd (not_refused code text fields changed why is only (subst (λ (fs : List Field). IsRefusedChange code text fs why) same h.why))
only_allowed code text eeprom fields changed course found is only (allowed bytes others told h) =
    let same = Tlv-unique bytes h.fields fields h.tlv (found bytes told) in
    let changes = (subst (λ (fs : List Field). IsStorable code text fs others) same h.storable).changes in
    (bytes, told, ap (λ (fs : List Field). stores the_eeprom (overwritten (spelling fs) bytes)) (only others changes))

calls_it : (code : ℕ) (text : List ℕ) (eeprom : Option (List ℕ)) (c : Course) → SetsBytes code text eeprom c → IsTrue (c.calls TheEeprom)
calls_it code text eeprom course (no_fields bytes kind told h) = refl
calls_it code text eeprom course (refused bytes kind told h) = refl
calls_it code text eeprom course (allowed bytes changed told h) = refl

tlv_end : (kind : EepromKind) → IsTlv kind → IsSetFieldEnd (statuses.BadEeprom kind)
tlv_end (eeproms.Tlv kind) is = tt
tlv_end (eeproms.Ident fault) is = absurd is

-- ---- what is stored

taken : (front rest : List ℕ) → take (length front) (front ++ rest) ≡ front
taken [] rest = refl
taken (x ∷ front) rest = ap (λ (l : List ℕ). x ∷ l) (taken front rest)

-- a front that is written into bytes, and stored up to its length, stands at the front of what was there
pub stored_as : (content now : Option (List ℕ)) (front out bytes : List ℕ) (size : ℕ) → size ≡ length front → ((rest : List ℕ) × (out ≡ front ++ rest))
    → Stores content now (take size out) → content ≡ Some bytes → now ≡ Some (overwritten front bytes)
stored_as content now front out bytes size long written stores told =
    let piece : take size out ≡ front = (λ i. take (long i) (written.1 i)) ∙ taken front written.0 in
    stores ∙ (λ i. option_map (λ (c : List ℕ). piece i ++ drop (length (piece i)) c) (told i))

-- ---- the ends

pub ends_without_fields : {T : Type 0} (code : ℕ) (text : List ℕ) (d : Devices) (eeprom : Seen (List ℕ)) (fault : LoadFault)
    → HasCauseOr {T = T} loads.Failed d.eeprom.faults eeprom.faults (Err fault) → eeprom.holds ≡ d.eeprom.holds
    → ((kind : EepromKind) → fault ≡ loads.Bad kind → ForSome d.eeprom.holds (λ bytes. IsUnreadable bytes kind)) → ((kind : EepromKind) → fault ≡ loads.Bad kind → IsTlv kind)
    → Runs (sets_field code text) d (with_eeprom d eeprom) (load_status fault)
ends_without_fields code text d eeprom loads.Failed cause kept unread tlv = record {
  counts = all_counted d (with_eeprom d eeprom) statuses.EepromFault (still _ _ _) (rose _ _ _ cause.later) (still _ _ _) (still _ _ _) (still _ _ _) (still _ _ _);
  ends = inr (record { called = refl; counted = cause.failed refl });
  went = λ answers. absurd answers;
  broken = λ breaks c comes. broke_before (sets_field code text) c d (with_eeprom d eeprom) statuses.EepromFault (record { called = calls_it _ _ _ c comes; counted = cause.failed refl }) refl refl kept tt;
  silent = λ e. refl;
  leaves = λ stored failed. kept;
}
ends_without_fields code text d eeprom loads.Memory cause kept unread tlv = record {
  counts = all_counted d (with_eeprom d eeprom) statuses.Memory (still _ _ _) (stayed _ _ _ _ (cause.quiet (λ e. cc))) (still _ _ _) (still _ _ _) (still _ _ _) (still _ _ _);
  ends = inr refl;
  went = λ answers. absurd answers;
  broken = λ breaks c comes. broke_before (sets_field code text) c d (with_eeprom d eeprom) statuses.Memory refl refl refl kept tt;
  silent = λ e. refl;
  leaves = λ stored failed. kept;
}
ends_without_fields code text d eeprom (loads.Bad kind) cause kept unread tlv = record {
  counts = all_counted d (with_eeprom d eeprom) (statuses.BadEeprom kind) (still _ _ _) (stayed _ _ _ _ (cause.quiet (λ e. cc))) (still _ _ _) (still _ _ _) (still _ _ _) (still _ _ _);
  ends = inl (tlv_end kind (tlv kind refl));
  went = λ answers told.
      let held = told_of d.eeprom.holds told in record {
        course = ends the_eeprom (statuses.BadEeprom kind);
        comes = no_fields held.0 kind held.1 (unread kind refl held.0 held.1);
        only = λ other comes. only_no_fields _ _ _ held.0 kind other held.1 (unread kind refl held.0 held.1) comes;
        took = record { is = refl; console = Appends-same _; trace = Appends-same _; eeprom = kept; plant = tt };
      };
  broken = λ breaks. absurd breaks;
  silent = λ e. refl;
  leaves = λ stored failed. kept;
}

pub ends_refused : (code : ℕ) (text : List ℕ) (d : Devices) (eeprom : Seen (List ℕ)) (fields : List Field) (kind : RefusedKind) → Loaded d eeprom fields → IsRefusedChange code text fields kind
    → ((changed : List Field) → IsStorable code text fields changed → ⊥) → Runs (sets_field code text) d (with_eeprom d eeprom) (statuses.Refused kind)
ends_refused code text d eeprom fields kind loaded is none = record {
  counts = all_counted d (with_eeprom d eeprom) (statuses.Refused kind) (still _ _ _) (stayed _ _ _ _ loaded.quiet) (still _ _ _) (still _ _ _) (still _ _ _) (still _ _ _);
  ends = inl (refusal_end code text fields kind is);
  went = λ answers told.
      let held = told_of d.eeprom.holds told in record {
        course = ends the_eeprom (statuses.Refused kind);
        comes = refused held.0 kind held.1 (record { fields = fields; tlv = loaded.found held.0 held.1; why = is });
        only = λ other comes. only_refused _ _ _ fields kind other loaded.found is none comes;
        took = record { is = refl; console = Appends-same _; trace = Appends-same _; eeprom = loaded.kept; plant = tt };
      };
  broken = λ breaks. absurd breaks;
  silent = λ e. refl;
  leaves = λ stored failed. loaded.kept;
}

pub ends_unremembered : (code : ℕ) (text : List ℕ) (d : Devices) (eeprom : Seen (List ℕ)) (fields : List Field) → Loaded d eeprom fields
    → Runs (sets_field code text) d (with_eeprom d eeprom) statuses.Memory
ends_unremembered code text d eeprom fields loaded = record {
  counts = all_counted d (with_eeprom d eeprom) statuses.Memory (still _ _ _) (stayed _ _ _ _ loaded.quiet) (still _ _ _) (still _ _ _) (still _ _ _) (still _ _ _);
  ends = inr refl;
  went = λ answers. absurd answers;
  broken = λ breaks c comes. broke_before (sets_field code text) c d (with_eeprom d eeprom) statuses.Memory refl refl refl loaded.kept tt;
  silent = λ e. refl;
  leaves = λ stored failed. loaded.kept;
}

-- what is known of a change before it is stored
pub record Storable (code : ℕ) (text : List ℕ) (d : Devices) (fields changed : List Field) : Type 0 where
  pub found : ForSome d.eeprom.holds (λ bytes. Tlv bytes fields)
  pub is : IsStorable code text fields changed
  pub only : (other : List Field) → Changes code text fields other → other ≡ changed

pub ends_stored : (code : ℕ) (text : List ℕ) (d : Devices) (eeprom : Seen (List ℕ)) (fields changed : List Field) → Storable code text d fields changed → eeprom.faults ≡ d.eeprom.faults
    → ForSome d.eeprom.holds (λ bytes. eeprom.holds ≡ Some (overwritten (spelling changed) bytes)) → Runs (sets_field code text) d (with_eeprom d eeprom) (statuses.Done outcomes.Stored)
ends_stored code text d eeprom fields changed can quiet stored = record {
  counts = all_counted d (with_eeprom d eeprom) (statuses.Done outcomes.Stored) (still _ _ _) (stayed _ _ _ _ quiet) (still _ _ _) (still _ _ _) (still _ _ _) (still _ _ _);
  ends = inl refl;
  went = λ answers told.
      let held = told_of d.eeprom.holds told in record {
        course = stores the_eeprom (overwritten (spelling changed) held.0);
        comes = allowed held.0 changed held.1 (record { fields = fields; tlv = can.found held.0 held.1; storable = can.is });
        only = λ other comes.
            let one = only_allowed _ _ _ fields changed other can.found can.is can.only comes in
            one.2 ∙ ap (λ (b : List ℕ). stores the_eeprom (overwritten (spelling changed) b)) (same_bytes _ one.0 held.0 one.1 held.1);
        took = record { is = refl; console = Appends-same _; trace = Appends-same _; eeprom = stored held.0 held.1; plant = tt };
      };
  broken = λ breaks. absurd breaks;
  silent = λ e. refl;
  leaves = λ other failed. absurd (other refl);
}

pub ends_unstored : (code : ℕ) (text : List ℕ) (d : Devices) (eeprom : Seen (List ℕ)) (fields changed : List Field) → Storable code text d fields changed → d.eeprom.faults ≤ eeprom.faults
    → Rose d.eeprom.faults eeprom.faults → Runs (sets_field code text) d (with_eeprom d eeprom) statuses.EepromFault
ends_unstored code text d eeprom fields changed can later failed =
    let new = with_eeprom d eeprom in record {
      counts = all_counted d new statuses.EepromFault (still _ _ _) (rose _ _ _ later) (still _ _ _) (still _ _ _) (still _ _ _) (still _ _ _);
      ends = inr (record { called = refl; counted = failed });
      went = λ answers. absurd answers;
      broken = λ breaks c comes.
          let one = only_allowed _ _ _ fields changed c can.found can.is can.only comes in
          let here : BrokeOff (sets_field code text) (stores the_eeprom (overwritten (spelling changed) one.0)) d new statuses.EepromFault = record {
            why = record { called = refl; counted = failed };
            front = front_of_none _ _;
            begins = λ e. front_of_none _ _;
            plant = tt;
            lines = λ in_lines other. no_lines _ _;
            trace = front_of_none _ _;
            eeprom = λ none. absurd cc;
          } in
          subst (λ (x : Course). BrokeOff (sets_field code text) x d new statuses.EepromFault) (sym one.2) here;
      silent = λ e. refl;
      leaves = λ stored other. absurd (other refl);
    }
