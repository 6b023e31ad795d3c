-- `discover`: the candidates for installing, a line each.
use Rattle.std.specs.Prelude.{◌≡◌, ℕ, List, Option, Some, IsSome, Bool, true, false}
use Rattle.std.specs.List.{flat_map}
use Rattle.bd_dev.specs.Rows.{Row}
use Rattle.bd_dev.specs.Source.{emptied}
use Rattle.bd_dev.specs.Volumes.{Volume, volume_names}
use Rattle.bd_mode.specs.declared.mode.Mode.TheVariants as modes
use Rattle.fetch_text.specs.Lines.{line_of}
use Rattle.find_fetch.specs.Fetching.{fetched_over}
use Rattle.net_script.specs.Feeds.{script_rows}
use Rattle.net_script.specs.Serving.{served}
use Rattle.net_script.specs.declared.fault.ScriptKind.{ScriptKind}
use Rattle.net_script.specs.declared.fault.ScriptKind.TheVariants.{NoBody}
use Rattle.net_script.specs.declared.line.Numbered.{Numbered}
use Rattle.tlvinfo.specs.Identity.{Board}
use Rattle.url_waterfall.specs.Candidates.{local_files}
use Rattle.url_waterfall.specs.Firsts.{firsts}
use Rattle.url_waterfall.specs.declared.candidate.Candidate.{Candidate}
use Rattle.onie_modes.specs.Course.{Course, Plan, ends, prints, the_eeprom}
use Rattle.onie_modes.specs.Devices.{Device, Devices, Use, Looked, Unused, Written, ThePlant, TheEeprom, TheMedia, TheScript, TheConsole, TheTrace, is_used}
use Rattle.onie_modes.specs.Identity.{HoldsBoard, IsRefused}
use Rattle.onie_modes.specs.Script.{IsPlayed, IsWrongScript, LacksBody}
use Rattle.onie_modes.specs.declared.exit.EepromKind.{EepromKind}
use Rattle.onie_modes.specs.declared.exit.Outcome.TheVariants as outcomes
use Rattle.onie_modes.specs.declared.exit.Status.{Status}
use Rattle.onie_modes.specs.declared.exit.Status.TheVariants as statuses

-- ---- the text

-- the line of a candidate, by what a fetch in round 1 gives of it
abbrev pub line_over : List Row → List Volume → Candidate → List ℕ
line_over rows volumes c = line_of c.shown (fetched_over rows volumes 1 c)

-- a line for each candidate
abbrev pub lines_of : List Row → List Volume → List Candidate → List ℕ
lines_of rows volumes candidates = flat_map (line_over rows volumes) candidates

-- the whole text, for a board, what comes over the network, and what the media hold: the candidates for installing, each
-- in a line
unfoldable pub discover_text : Board → List Row → List Volume → List ℕ
discover_text board rows volumes =
    lines_of rows volumes (firsts (local_files board modes.Install (volume_names volumes)))

-- the same over the network that the lines of a script make
abbrev pub scripted_text : Board → List Numbered → List Volume → List ℕ
scripted_text board lines volumes = discover_text board (script_rows (served volumes lines)) volumes

-- ---- the command

abbrev pub discover_uses : Device → Use
discover_uses ThePlant = Unused
discover_uses TheEeprom = Looked
discover_uses TheMedia = Looked
discover_uses TheScript = Looked
discover_uses TheConsole = Written
discover_uses TheTrace = Written

-- the devices that are called for the script's lines
abbrev pub up_to_script : Device → Bool
up_to_script TheScript = true
up_to_script device = the_eeprom device

-- the devices that are called for a network, before a fetch
abbrev pub up_to_network : Device → Bool
up_to_network TheMedia = true
up_to_network device = up_to_script device

abbrev pub up_to_fetches : Device → Bool
up_to_fetches device = is_used (discover_uses device)

-- The course, by the EEPROM's bytes, the script's text and the media's volumes.
pub data Lists (eeprom script : Option (List ℕ)) (media : Option (List Volume)) : Course → Type 0 where
  -- an EEPROM without a board is refused, by the first fault in it
  no_board : (bytes : List ℕ) (kind : EepromKind) → eeprom ≡ Some bytes → IsRefused bytes kind
      → Lists eeprom script media (ends the_eeprom (statuses.BadEeprom kind))
  -- a script with a wrong line is refused, by the first such line
  wrong : (bytes text : List ℕ) (board : Board) (line : ℕ) (kind : ScriptKind) → eeprom ≡ Some bytes
      → HoldsBoard bytes board → script ≡ Some text → IsWrongScript text line kind
      → Lists eeprom script media (ends up_to_script (statuses.BadScript line kind))
  -- or else by the first line whose file is not there or too long
  lacking : (bytes text : List ℕ) (board : Board) (volumes : List Volume) (line : ℕ) → eeprom ≡ Some bytes
      → HoldsBoard bytes board → script ≡ Some text → media ≡ Some volumes → LacksBody text volumes line
      → Lists eeprom script media (ends up_to_network (statuses.BadScript line NoBody))
  -- each candidate is listed with what a fetch gives of it
  played : (bytes text : List ℕ) (board : Board) (volumes : List Volume) (lines : List Numbered)
      → eeprom ≡ Some bytes → HoldsBoard bytes board → script ≡ Some text → media ≡ Some volumes
      → IsPlayed text volumes lines
      → Lists eeprom script media (prints up_to_fetches (scripted_text board lines volumes))

-- its own ends
abbrev pub IsDiscoverEnd : Status → Type 0
IsDiscoverEnd (statuses.Done outcome) = outcome ≡ outcomes.Printed
IsDiscoverEnd (statuses.BadEeprom kind) = Unit {0}
IsDiscoverEnd (statuses.BadScript line kind) = Unit {0}
IsDiscoverEnd status = ⊥

-- it has printed nothing
abbrev pub is_silent_discover : Status → Bool
is_silent_discover (statuses.BadEeprom kind) = true
is_silent_discover (statuses.BadScript line kind) = true
is_silent_discover statuses.EepromFault = true
is_silent_discover statuses.SourceFault = true
is_silent_discover status = false

-- the devices that decide an end: a wrong line is found before the media are asked
abbrev pub TellsDiscover : Devices → Status → Type 0
TellsDiscover d (statuses.BadEeprom kind) = IsSome d.eeprom.holds
TellsDiscover d (statuses.BadScript line kind) =
    IsSome d.eeprom.holds × IsSome d.script.holds × (kind ≡ NoBody → IsSome d.media.holds)
TellsDiscover d status = IsSome d.eeprom.holds × IsSome d.script.holds × IsSome d.media.holds

-- Nothing is sent yet; and a call that is done has read the script to its end.
pub record DiscoverLeaves (old new : Devices) (end : Status) : Type 0 where
  pub untraced : new.trace.holds ≡ old.trace.holds
  pub read_out : end ≡ statuses.Done outcomes.Printed → new.script.holds ≡ emptied old.script.holds

abbrev pub discovers : Plan
discovers = record {
  uses = discover_uses;
  memory = true;
  answers = IsDiscoverEnd;
  silent = is_silent_discover;
  told = TellsDiscover;
  comes = λ d c. Lists d.eeprom.holds d.script.holds d.media.holds c;
  follows = λ c end. Unit {0};
  leaves = DiscoverLeaves;
}
