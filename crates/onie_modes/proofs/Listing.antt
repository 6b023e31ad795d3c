-- How runs of `discover` end.
use Rattle.std.proofs.Common.{◌≡◌, ◌≢◌, ◌⊎◌, inl, inr, ⊎_elim, ℕ, ◌≤◌, List, [], ◌++◌, Option, Some, None, Result, Ok, Err, Bool, true, false, refl, sym, ap, subst, ◌∙◌, arith}
use Rattle.std.specs.Prelude.{IsTrue, IsSome}
use Rattle.std.specs.Option.{ForSome}
use Rattle.std.proofs.lemmas.Option.{same_Some}
use Rattle.bd_dev.specs.Faults.{HasCauseOr, Rose}
use Rattle.bd_dev.specs.Rows.{Row}
use Rattle.bd_dev.specs.Sink.{Appends, AppendsFront}
use Rattle.bd_dev.specs.Source.{emptied}
use Rattle.bd_dev.specs.Volumes.{Volume}
use Rattle.bd_dev.proofs.Appending.{Appends-same}
use Rattle.bd_dev.proofs.Lines.{Appends-front}
use Rattle.net_script.specs.Feeds.{script_rows}
use Rattle.net_script.specs.Script.{Fault, ReadsScript}
use Rattle.net_script.specs.Serving.{first_lacking, served}
use Rattle.net_script.specs.declared.fault.ScriptKind.{ScriptKind}
use Rattle.net_script.specs.declared.fault.ScriptKind.TheVariants.{NoBody}
use Rattle.net_script.specs.declared.line.Numbered.{Numbered}
use Rattle.tlvinfo.specs.Identity.{Board}
use Rattle.onie_modes.specs.Console.{AppendsLines}
use Rattle.onie_modes.specs.Course.{Course, ends, prints, the_eeprom}
use Rattle.onie_modes.specs.Devices.{Device, Devices, Seen, TheEeprom, TheMedia, TheScript, TheConsole, TheTrace, devices, with_eeprom}
use Rattle.onie_modes.specs.Discover.{Lists, discover_text, discovers, lacking, no_board, played, scripted_text, up_to_fetches, up_to_network, up_to_script, wrong}
use Rattle.onie_modes.specs.Identity.{HoldsBoard, IsRefused, load_status}
use Rattle.onie_modes.specs.Running.{Breaks, BrokeOff, Fails, Runs}
use Rattle.onie_modes.specs.Script.{FirstLacks, IsPlayed, IsRefusedScript, IsWrongScript, LacksBody, Plays, SaysOnly, net_status}
use Rattle.onie_modes.specs.declared.exit.EepromKind.{EepromKind}
use Rattle.onie_modes.specs.declared.exit.Outcome.TheVariants as outcomes
use Rattle.onie_modes.specs.declared.exit.Status.{Status}
use Rattle.onie_modes.specs.declared.exit.Status.TheVariants as statuses
use Rattle.onie_modes.specs.declared.identity.LoadFault.{LoadFault}
use Rattle.onie_modes.specs.declared.identity.LoadFault.TheVariants as loads
use Rattle.onie_modes.specs.declared.script.NetFault.{NetFault}
use Rattle.onie_modes.specs.declared.script.NetFault.TheVariants as nets
use Rattle.onie_modes.proofs.Boards.{refused-or_board, refused-unique}
use Rattle.onie_modes.proofs.Ends.{Counted, all_counted, broke_before, rose, stayed, still, told_of}

-- ---- without a board

-- each course calls the EEPROM
calls_eeprom : (eeprom script : Option (List ℕ)) (media : Option (List Volume)) (c : Course) → Lists eeprom script media c → IsTrue (c.calls TheEeprom)
calls_eeprom eeprom script media course (no_board bytes kind told refused) = refl
calls_eeprom eeprom script media course (wrong bytes text board line kind told holds script_told is) = refl
calls_eeprom eeprom script media course (lacking bytes text board volumes line told holds script_told media_told is) = refl
calls_eeprom eeprom script media course (played bytes text board volumes lines told holds script_told media_told is) = refl

-- an EEPROM without a board has one course
only_refused : (eeprom script : Option (List ℕ)) (media : Option (List Volume)) (bytes : List ℕ) (kind : EepromKind) (c : Course) → eeprom ≡ Some bytes → IsRefused bytes kind
    → Lists eeprom script media c → c ≡ ends the_eeprom (statuses.BadEeprom kind)
only_refused eeprom script media bytes kind course held refused (no_board other why told is) =
    ap (λ (k : EepromKind). ends the_eeprom (statuses.BadEeprom k))
    (refused-unique bytes why kind (subst (λ (b : List ℕ). IsRefused b why) (same_Some other bytes (sym told ∙ held)) is) refused)
only_refused eeprom script media bytes kind course held refused (wrong other text board line why told holds script_told is) =
    absurd (refused-or_board bytes kind board refused (subst (λ (b : List ℕ). HoldsBoard b board) (same_Some other bytes (sym told ∙ held)) holds))
only_refused eeprom script media bytes kind course held refused (lacking other text board volumes line told holds script_told media_told is) =
    absurd (refused-or_board bytes kind board refused (subst (λ (b : List ℕ). HoldsBoard b board) (same_Some other bytes (sym told ∙ held)) holds))
only_refused eeprom script media bytes kind course held refused (played other text board volumes lines told holds script_told media_told is) =
    absurd (refused-or_board bytes kind board refused (subst (λ (b : List ℕ). HoldsBoard b board) (same_Some other bytes (sym told ∙ held)) holds))

-- a run that ends before it knows the board
pub ends_without_board : {T : Type 0} (d : Devices) (eeprom : Seen (List ℕ)) (fault : LoadFault)
    → HasCauseOr {T = T} loads.Failed d.eeprom.faults eeprom.faults (Err fault) → eeprom.holds ≡ d.eeprom.holds
    → ((kind : EepromKind) → fault ≡ loads.Bad kind → ForSome d.eeprom.holds (λ bytes. IsRefused bytes kind))
    → Runs discovers d (with_eeprom d eeprom) (load_status fault)
ends_without_board d eeprom loads.Failed cause kept refused =
    let why : Fails (λ device. true) d (with_eeprom d eeprom) TheEeprom = record { called = refl; counted = cause.failed refl } in
    record {
      counts = all_counted d (with_eeprom d eeprom) statuses.EepromFault (still _ _ _) (rose _ _ _ cause.later) (still _ _ _) (still _ _ _) (still _ _ _) (still _ _ _);
      ends = inr (record { called = refl; counted = why.counted });
      went = λ answers. absurd answers;
      broken = λ breaks c comes. broke_before discovers c d (with_eeprom d eeprom) statuses.EepromFault
          (record { called = calls_eeprom _ _ _ c comes; counted = why.counted }) refl refl kept tt;
      silent = λ e. refl;
      leaves = record { untraced = refl; read_out = λ e. absurd cc };
    }
ends_without_board d eeprom loads.Memory cause kept refused = record {
  counts = all_counted d (with_eeprom d eeprom) statuses.Memory (still _ _ _) (stayed _ _ _ _ (cause.quiet (λ e. cc))) (still _ _ _) (still _ _ _) (still _ _ _) (still _ _ _);
  ends = inr refl;
  went = λ answers. absurd answers;
  broken = λ breaks c comes. broke_before discovers c d (with_eeprom d eeprom) statuses.Memory refl refl refl kept tt;
  silent = λ e. refl;
  leaves = record { untraced = refl; read_out = λ e. absurd cc };
}
ends_without_board d eeprom (loads.Bad kind) cause kept refused = record {
  counts = all_counted d (with_eeprom d eeprom) (statuses.BadEeprom kind) (still _ _ _) (stayed _ _ _ _ (cause.quiet (λ e. cc))) (still _ _ _) (still _ _ _) (still _ _ _) (still _ _ _);
  ends = inl tt;
  went = λ answers told.
      let held = told_of d.eeprom.holds told in
      record {
        course = ends the_eeprom (statuses.BadEeprom kind);
        comes = no_board held.0 kind held.1 (refused kind refl held.0 held.1);
        only = λ other comes. only_refused _ _ _ held.0 kind other held.1 (refused kind refl held.0 held.1) comes;
        took = record { is = refl; console = Appends-same _; trace = Appends-same _; eeprom = kept; plant = tt };
      };
  broken = λ breaks. absurd breaks;
  silent = λ e. refl;
  leaves = record { untraced = refl; read_out = λ e. absurd cc };
}

-- ---- with a board, without a network

-- the EEPROM, where it tells, holds this board and no other
abbrev pub IsLoaded : Option (List ℕ) → Board → Type 0
IsLoaded eeprom board = ForSome eeprom (λ bytes. HoldsBoard bytes board × ((other : Board) → HoldsBoard bytes other → board ≡ other))

no_refusal : (eeprom : Option (List ℕ)) (board : Board) (bytes : List ℕ) (kind : EepromKind) → IsLoaded eeprom board → eeprom ≡ Some bytes → IsRefused bytes kind → ⊥
no_refusal eeprom board bytes kind loaded told refused = refused-or_board bytes kind board refused (loaded bytes told).0

-- each course of a board that is loaded calls the script
calls_script : (eeprom script : Option (List ℕ)) (media : Option (List Volume)) (board : Board) (c : Course) → IsLoaded eeprom board → Lists eeprom script media c → IsTrue (c.calls TheScript)
calls_script eeprom script media board course loaded (no_board bytes kind told refused) = absurd (no_refusal eeprom board bytes kind loaded told refused)
calls_script eeprom script media board course loaded (wrong bytes text other line kind told holds script_told is) = refl
calls_script eeprom script media board course loaded (lacking bytes text other volumes line told holds script_told media_told is) = refl
calls_script eeprom script media board course loaded (played bytes text other volumes lines told holds script_told media_told is) = refl

-- and the media, where its script has no wrong line
calls_media : (eeprom script : Option (List ℕ)) (media : Option (List Volume)) (board : Board) (c : Course) → IsLoaded eeprom board
    → ForSome script (λ text. (line : ℕ) (kind : ScriptKind) → ¬ IsWrongScript text line kind) → Lists eeprom script media c → IsTrue (c.calls TheMedia)
calls_media eeprom script media board course loaded right (no_board bytes kind told refused) = absurd (no_refusal eeprom board bytes kind loaded told refused)
calls_media eeprom script media board course loaded right (wrong bytes text other line kind told holds script_told is) = absurd (right text script_told line kind is)
calls_media eeprom script media board course loaded right (lacking bytes text other volumes line told holds script_told media_told is) = refl
calls_media eeprom script media board course loaded right (played bytes text other volumes lines told holds script_told media_told is) = refl

-- what a text says, by what it says alone
same_says : (text other : List ℕ) (answer answers : Result (List Numbered) Fault) → other ≡ text → SaysOnly text answer → ReadsScript other answers → answers ≡ answer
same_says text other answer answers same says reads = says.only answers (subst (λ (t : List ℕ). ReadsScript t answers) same reads)

-- a wrong line by the answer
same_fault : (a b : Fault) → (let e : Result (List Numbered) Fault = Err a in e) ≡ Err b → a ≡ b
same_fault a b same = cc

-- a script with this wrong line has one course
only_wrong : (eeprom script : Option (List ℕ)) (media : Option (List Volume)) (board : Board) (text : List ℕ) (line : ℕ) (kind : ScriptKind) (c : Course) → IsLoaded eeprom board
    → script ≡ Some text → SaysOnly text (Err (record { line = line; kind = kind })) → Lists eeprom script media c → c ≡ ends up_to_script (statuses.BadScript line kind)
only_wrong eeprom script media board text line kind course loaded held says (no_board bytes why told refused) = absurd (no_refusal eeprom board bytes why loaded told refused)
only_wrong eeprom script media board text line kind course loaded held says (wrong bytes other_text other at why told holds script_told is) =
    let same = same_says text other_text _ (Err (record { line = at; kind = why })) (same_Some other_text text (sym script_told ∙ held)) says is in
    let is_one = same_fault (record { line = at; kind = why }) (record { line = line; kind = kind }) same in
    let lines : at ≡ line = ap (λ (f : Fault). f.line) is_one in
    let kinds : why ≡ kind = ap (λ (f : Fault). f.kind) is_one in
    λ i. ends up_to_script (statuses.BadScript (lines i) (kinds i))
only_wrong eeprom script media board text line kind course loaded held says (lacking bytes other_text other volumes at told holds script_told media_told is) =
    absurd (let same = same_says text other_text _ (Ok is.lines) (same_Some other_text text (sym script_told ∙ held)) says is.reads in cc)
only_wrong eeprom script media board text line kind course loaded held says (played bytes other_text other volumes lines told holds script_told media_told is) =
    absurd (let same = same_says text other_text _ (Ok lines) (same_Some other_text text (sym script_told ∙ held)) says is.reads in cc)

-- so has one whose lines serve what the volumes lack
only_lacking : (eeprom script : Option (List ℕ)) (media : Option (List Volume)) (board : Board) (text : List ℕ) (volumes : List Volume) (line : ℕ) (c : Course) → IsLoaded eeprom board
    → script ≡ Some text → media ≡ Some volumes → FirstLacks text media line → Lists eeprom script media c → c ≡ ends up_to_network (statuses.BadScript line NoBody)
only_lacking eeprom script media board text volumes line course loaded held media_held first (no_board bytes why told refused) = absurd (no_refusal eeprom board bytes why loaded told refused)
only_lacking eeprom script media board text volumes line course loaded held media_held first (wrong bytes other_text other at why told holds script_told is) =
    absurd (let same = same_says text other_text _ (Err (record { line = at; kind = why })) (same_Some other_text text (sym script_told ∙ held)) first.says is in cc)
only_lacking eeprom script media board text volumes line course loaded held media_held first (lacking bytes other_text other others at told holds script_told media_told is) =
    let same = same_says text other_text _ (Ok is.lines) (same_Some other_text text (sym script_told ∙ held)) first.says is.reads in
    let lines : is.lines ≡ first.lines = cc in
    let here : first_lacking others first.lines ≡ Some at = subst (λ (l : List Numbered). first_lacking others l ≡ Some at) lines is.lacks in
    let some : Some at ≡ Some line = sym here ∙ first.lacks others media_told in
    let ats : at ≡ line = same_Some at line some in
    λ i. ends up_to_network (statuses.BadScript (ats i) NoBody)
only_lacking eeprom script media board text volumes line course loaded held media_held first (played bytes other_text other others lines told holds script_told media_told is) =
    let same = same_says text other_text _ (Ok lines) (same_Some other_text text (sym script_told ∙ held)) first.says is.reads in
    let same_lines : lines ≡ first.lines = cc in
    let here : first_lacking others first.lines ≡ None = subst (λ (l : List Numbered). first_lacking others l ≡ None) same_lines is.served in
    absurd (let both : None ≡ Some line = sym here ∙ first.lacks others media_told in cc)

-- a run that ends before it has a network
pub ends_without_net : {T : Type 0} (d : Devices) (eeprom : Seen (List ℕ)) (media : Seen (List Volume)) (script : Seen (List ℕ)) (board : Board) (fault : NetFault)
    → eeprom.faults ≡ d.eeprom.faults → eeprom.holds ≡ d.eeprom.holds → IsLoaded d.eeprom.holds board
    → HasCauseOr {T = T} nets.Source d.script.faults script.faults (Err fault) → HasCauseOr {T = T} nets.Media d.media.faults media.faults (Err fault)
    → ((line : ℕ) (kind : ScriptKind) → fault ≡ nets.Bad line kind → IsRefusedScript d.script.holds d.media.holds line kind)
    → (fault ≡ nets.Media → ForSome d.script.holds (λ text. (line : ℕ) (kind : ScriptKind) → ¬ IsWrongScript text line kind))
    → Runs discovers d (devices d.plant eeprom media script d.console d.trace) (net_status fault)
ends_without_net d eeprom media script board nets.Source same kept loaded source media_cause refused right =
    let new = devices d.plant eeprom media script d.console d.trace in record {
      counts = all_counted d new statuses.SourceFault (still _ _ _) (stayed _ _ _ _ same) (stayed _ _ _ _ (media_cause.quiet (λ e. cc))) (rose _ _ _ source.later) (still _ _ _) (still _ _ _);
      ends = inr (record { called = refl; counted = source.failed refl });
      went = λ answers. absurd answers;
      broken = λ breaks c comes. broke_before discovers c d new statuses.SourceFault
          (record { called = calls_script _ _ _ board c loaded comes; counted = source.failed refl }) refl refl kept tt;
      silent = λ e. refl;
      leaves = record { untraced = refl; read_out = λ e. absurd cc };
    }
ends_without_net d eeprom media script board nets.Media same kept loaded source media_cause refused right =
    let new = devices d.plant eeprom media script d.console d.trace in record {
      counts = all_counted d new statuses.MediaFault (still _ _ _) (stayed _ _ _ _ same) (rose _ _ _ media_cause.later) (stayed _ _ _ _ (source.quiet (λ e. cc))) (still _ _ _) (still _ _ _);
      ends = inr (record { called = refl; counted = media_cause.failed refl });
      went = λ answers. absurd answers;
      broken = λ breaks c comes. broke_before discovers c d new statuses.MediaFault
          (record { called = calls_media _ _ _ board c loaded (right refl) comes; counted = media_cause.failed refl }) refl refl kept tt;
      silent = λ e. refl;
      leaves = record { untraced = refl; read_out = λ e. absurd cc };
    }
ends_without_net d eeprom media script board nets.Memory same kept loaded source media_cause refused right =
    let new = devices d.plant eeprom media script d.console d.trace in record {
      counts = all_counted d new statuses.Memory (still _ _ _) (stayed _ _ _ _ same) (stayed _ _ _ _ (media_cause.quiet (λ e. cc))) (stayed _ _ _ _ (source.quiet (λ e. cc))) (still _ _ _) (still _ _ _);
      ends = inr refl;
      went = λ answers. absurd answers;
      broken = λ breaks c comes. broke_before discovers c d new statuses.Memory refl refl refl kept tt;
      silent = λ e. refl;
      leaves = record { untraced = refl; read_out = λ e. absurd cc };
    }
ends_without_net d eeprom media script board (nets.Bad line kind) same kept loaded source media_cause refused right =
    let new = devices d.plant eeprom media script d.console d.trace in record {
      counts = all_counted d new (statuses.BadScript line kind) (still _ _ _) (stayed _ _ _ _ same) (stayed _ _ _ _ (media_cause.quiet (λ e. cc))) (stayed _ _ _ _ (source.quiet (λ e. cc))) (still _ _ _) (still _ _ _);
      ends = inl tt;
      went = λ answers told.
          let bytes = told_of d.eeprom.holds told.0 in
          let text = told_of d.script.holds told.1 in
          let holds = (loaded bytes.0 bytes.1).0 in
          ⊎_elim
          (λ says. record {
            course = ends up_to_script (statuses.BadScript line kind);
            comes = wrong bytes.0 text.0 board line kind bytes.1 holds text.1 says.reads;
            only = λ other comes. only_wrong _ _ _ board text.0 line kind other loaded text.1 says comes;
            took = record { is = refl; console = Appends-same _; trace = Appends-same _; eeprom = kept; plant = tt };
          })
          (λ lacks.
          let volumes = told_of d.media.holds (told.2 lacks.0) in record {
            course = ends up_to_network (statuses.BadScript line NoBody);
            comes = lacking bytes.0 text.0 board volumes.0 line bytes.1 holds text.1 volumes.1
                (record { lines = lacks.1.lines; reads = lacks.1.says.reads; lacks = lacks.1.lacks volumes.0 volumes.1 });
            only = λ other comes. only_lacking _ _ _ board text.0 volumes.0 line other loaded text.1 volumes.1 lacks.1 comes;
            took = record { is = ap (λ (k : ScriptKind). statuses.BadScript line k) lacks.0; console = Appends-same _; trace = Appends-same _; eeprom = kept; plant = tt };
          })
          (refused line kind refl text.0 text.1);
      broken = λ breaks. absurd breaks;
      silent = λ e. refl;
      leaves = record { untraced = refl; read_out = λ e. absurd cc };
    }

-- ---- a run over a network

-- the network's rows are those of the script, where it and the media tell
abbrev pub IsNet : Option (List ℕ) → Option (List Volume) → List Row → Type 0
IsNet script media rows = ForSome script (λ text. Plays text media rows)

-- the course of such a run is the only one
only_played : (eeprom script : Option (List ℕ)) (media : Option (List Volume)) (board : Board) (rows : List Row) (c : Course) → IsLoaded eeprom board → IsNet script media rows
    → Lists eeprom script media c → (volumes : List Volume) × (media ≡ Some volumes) × (c ≡ prints up_to_fetches (discover_text board rows volumes))
only_played eeprom script media board rows course loaded net (no_board bytes why told refused) = absurd (no_refusal eeprom board bytes why loaded told refused)
only_played eeprom script media board rows course loaded net (wrong bytes text other at why told holds script_told is) =
    absurd (let same = (net text script_told).says.only (Err (record { line = at; kind = why })) is in cc)
only_played eeprom script media board rows course loaded net (lacking bytes text other volumes at told holds script_told media_told is) =
    let plays = net text script_told in
    let same = plays.says.only (Ok is.lines) is.reads in
    let lines : is.lines ≡ plays.lines = cc in
    let here : first_lacking volumes plays.lines ≡ Some at = subst (λ (l : List Numbered). first_lacking volumes l ≡ Some at) lines is.lacks in
    absurd (let both : None ≡ Some at = sym (plays.plays volumes media_told).0 ∙ here in cc)
only_played eeprom script media board rows course loaded net (played bytes text other volumes lines told holds script_told media_told is) =
    let plays = net text script_told in
    let same = plays.says.only (Ok lines) is.reads in
    let same_lines : lines ≡ plays.lines = cc in
    let same_board : board ≡ other = (loaded bytes told).1 other holds in
    let same_rows : rows ≡ script_rows (served volumes lines) = (plays.plays volumes media_told).1 ∙ ap (λ (l : List Numbered). script_rows (served volumes l)) (sym same_lines) in
    (volumes, media_told, λ i. prints up_to_fetches (discover_text (sym same_board i) (sym same_rows i) volumes))

-- what such a run left, whatever its end
pub record Listed (d new : Devices) (board : Board) (rows : List Row) : Type 0 where
  pub eeprom_same : new.eeprom.faults ≡ d.eeprom.faults
  pub eeprom : new.eeprom.holds ≡ d.eeprom.holds
  pub plant : new.plant ≡ d.plant
  pub script_same : new.script.faults ≡ d.script.faults
  pub loaded : IsLoaded d.eeprom.holds board
  pub net : IsNet d.script.holds d.media.holds rows
  pub trace : new.trace.holds ≡ d.trace.holds
  pub read_out : new.script.holds ≡ emptied d.script.holds
  pub front : ForSome d.media.holds (λ volumes. AppendsFront d.console.holds new.console.holds (discover_text board rows volumes))

trace_appends : (d new : Devices) → new.trace.holds ≡ d.trace.holds → Appends d.trace.holds new.trace.holds []
trace_appends d new same = subst (λ (t : Option (List ℕ)). Appends d.trace.holds t []) (sym same) (Appends-same d.trace.holds)

-- it was broken off in the text
broke_in : (d new : Devices) (board : Board) (rows : List Row) (end : Status) (c : Course) → end ≢ statuses.PlantFault → Listed d new board rows
    → (end ≢ statuses.SinkFault → ForSome d.media.holds (λ volumes. AppendsLines d.console.holds new.console.holds (discover_text board rows volumes)))
    → Breaks up_to_fetches true d new end → Lists d.eeprom.holds d.script.holds d.media.holds c → BrokeOff discovers c d new end
broke_in d new board rows end c no_plant listed lines why comes =
    let one = only_played _ _ _ board rows c listed.loaded listed.net comes in
    let here : BrokeOff discovers (prints up_to_fetches (discover_text board rows one.0)) d new end = record {
      why = why;
      begins = λ failed. absurd (no_plant failed);
      plant = tt;
      front = listed.front one.0 one.1;
      lines = λ in_lines other. lines other one.0 one.1;
      trace = Appends-front _ _ _ (trace_appends d new listed.trace);
      eeprom = λ none. listed.eeprom;
    } in
    subst (λ (x : Course). BrokeOff discovers x d new end) (sym one.2) here

-- it printed all
pub ends_printed : (d new : Devices) (board : Board) (rows : List Row) → Listed d new board rows
    → ForSome d.media.holds (λ volumes. Appends d.console.holds new.console.holds (discover_text board rows volumes))
    → new.media.faults ≡ d.media.faults → new.console.faults ≡ d.console.faults → new.trace.faults ≡ d.trace.faults
    → Runs discovers d new (statuses.Done outcomes.Printed)
ends_printed d new board rows listed text media console trace = record {
  counts = all_counted d new (statuses.Done outcomes.Printed) (stayed _ _ _ _ listed.plant) (stayed _ _ _ _ listed.eeprom_same) (stayed _ _ _ _ media) (stayed _ _ _ _ listed.script_same) (stayed _ _ _ _ console) (stayed _ _ _ _ trace);
  ends = inl refl;
  went = λ answers told.
      let bytes = told_of d.eeprom.holds told.0 in
      let script = told_of d.script.holds told.1 in
      let volumes = told_of d.media.holds told.2 in
      let plays = listed.net script.0 script.1 in
      let is : IsPlayed script.0 volumes.0 plays.lines = record { reads = plays.says.reads; served = (plays.plays volumes.0 volumes.1).0 } in
      let comes = played bytes.0 script.0 board volumes.0 plays.lines bytes.1 (listed.loaded bytes.0 bytes.1).0 script.1 volumes.1 is in
      let same : discover_text board rows volumes.0 ≡ scripted_text board plays.lines volumes.0 =
      ap (λ (r : List Row). discover_text board r volumes.0) (plays.plays volumes.0 volumes.1).1 in
      record {
        course = prints up_to_fetches (scripted_text board plays.lines volumes.0);
        comes = comes;
        only = λ other others.
            let one = only_played _ _ _ board rows other listed.loaded listed.net others in
            let same_volumes : one.0 ≡ volumes.0 = same_Some _ _ (sym one.1 ∙ volumes.1) in
            one.2 ∙ ap (λ (v : List Volume). prints up_to_fetches (discover_text board rows v)) same_volumes ∙ ap (prints up_to_fetches) same;
        took = record {
          is = refl;
          console = subst (Appends d.console.holds new.console.holds) same (text volumes.0 volumes.1);
          trace = trace_appends d new listed.trace;
          eeprom = listed.eeprom;
          plant = tt;
        };
      };
  broken = λ breaks. absurd breaks;
  silent = λ e. absurd cc;
  leaves = record { untraced = listed.trace; read_out = λ e. listed.read_out };
}

-- the media failed
pub ends_unlisted : (d new : Devices) (board : Board) (rows : List Row) → Listed d new board rows
    → ForSome d.media.holds (λ volumes. AppendsLines d.console.holds new.console.holds (discover_text board rows volumes))
    → d.media.faults ≤ new.media.faults → Rose d.media.faults new.media.faults → new.console.faults ≡ d.console.faults → new.trace.faults ≡ d.trace.faults
    → Runs discovers d new statuses.MediaFault
ends_unlisted d new board rows listed lines later failed console trace = record {
  counts = all_counted d new statuses.MediaFault (stayed _ _ _ _ listed.plant) (stayed _ _ _ _ listed.eeprom_same) (rose _ _ _ later) (stayed _ _ _ _ listed.script_same) (stayed _ _ _ _ console) (stayed _ _ _ _ trace);
  ends = inr (record { called = refl; counted = failed });
  went = λ answers. absurd answers;
  broken = λ breaks c comes. broke_in d new board rows statuses.MediaFault c (λ e. cc) listed (λ other. lines) (record { called = refl; counted = failed }) comes;
  silent = λ e. absurd cc;
  leaves = record { untraced = listed.trace; read_out = λ e. absurd cc };
}

-- there was no memory
pub ends_unremembered : (d new : Devices) (board : Board) (rows : List Row) → Listed d new board rows
    → ForSome d.media.holds (λ volumes. AppendsLines d.console.holds new.console.holds (discover_text board rows volumes))
    → new.media.faults ≡ d.media.faults → new.console.faults ≡ d.console.faults → new.trace.faults ≡ d.trace.faults
    → Runs discovers d new statuses.Memory
ends_unremembered d new board rows listed lines media console trace = record {
  counts = all_counted d new statuses.Memory (stayed _ _ _ _ listed.plant) (stayed _ _ _ _ listed.eeprom_same) (stayed _ _ _ _ media) (stayed _ _ _ _ listed.script_same) (stayed _ _ _ _ console) (stayed _ _ _ _ trace);
  ends = inr refl;
  went = λ answers. absurd answers;
  broken = λ breaks c comes. broke_in d new board rows statuses.Memory c (λ e. cc) listed (λ other. lines) refl comes;
  silent = λ e. absurd cc;
  leaves = record { untraced = listed.trace; read_out = λ e. absurd cc };
}

-- the console or the trace failed
pub ends_unprinted : (d new : Devices) (board : Board) (rows : List Row) → Listed d new board rows
    → new.media.faults ≡ d.media.faults → d.console.faults ≤ new.console.faults → d.trace.faults ≤ new.trace.faults
    → Rose d.console.faults new.console.faults ⊎ Rose d.trace.faults new.trace.faults
    → Runs discovers d new statuses.SinkFault
ends_unprinted d new board rows listed media console trace failed =
    let why : Breaks up_to_fetches true d new statuses.SinkFault =
    ⊎_elim (λ c. inl (record { called = refl; counted = c })) (λ t. inr (record { called = refl; counted = t })) failed in
    record {
      counts = all_counted d new statuses.SinkFault (stayed _ _ _ _ listed.plant) (stayed _ _ _ _ listed.eeprom_same) (stayed _ _ _ _ media) (stayed _ _ _ _ listed.script_same) (rose _ _ _ console) (rose _ _ _ trace);
      ends = inr why;
      went = λ answers. absurd answers;
      broken = λ breaks c comes. broke_in d new board rows statuses.SinkFault c (λ e. cc) listed (λ other. absurd (other refl)) why comes;
      silent = λ e. absurd cc;
      leaves = record { untraced = listed.trace; read_out = λ e. absurd cc };
    }
