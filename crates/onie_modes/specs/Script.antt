-- Which network a script makes, or why it makes none.
use Rattle.std.specs.Prelude.{◌≡◌, ◌⊎◌, ℕ, List, Option, Some, None, Result, Ok, Err}
use Rattle.std.specs.Option.{ForSome}
use Rattle.bd_dev.specs.Rows.{Row}
use Rattle.bd_dev.specs.Volumes.{Volume}
use Rattle.net_script.specs.Script.{Fault, ReadsScript}
use Rattle.net_script.specs.Feeds.{script_rows}
use Rattle.net_script.specs.Serving.{first_lacking, served}
use Rattle.net_script.specs.declared.fault.ScriptFault.{ScriptFault}
use Rattle.net_script.specs.declared.fault.ScriptFault.TheVariants as scripts
use Rattle.net_script.specs.declared.fault.ScriptKind.{ScriptKind}
use Rattle.net_script.specs.declared.fault.ScriptKind.TheVariants.{NoBody}
use Rattle.net_script.specs.declared.line.Numbered.{Numbered}
use Rattle.onie_modes.specs.declared.exit.Status.{Status}
use Rattle.onie_modes.specs.declared.exit.Status.TheVariants as statuses
use Rattle.onie_modes.specs.declared.script.NetFault.{NetFault}
use Rattle.onie_modes.specs.declared.script.NetFault.TheVariants as faults

-- the text has this first wrong line
abbrev pub IsWrongScript : List ℕ → ℕ → ScriptKind → Type 0
IsWrongScript text line kind = ReadsScript text (Err (record { line = line; kind = kind }))

-- the text says lines, of which this is the first whose file the volumes lack, or have too long
pub record LacksBody (text : List ℕ) (volumes : List Volume) (line : ℕ) : Type 0 where
  pub lines : List Numbered
  pub reads : ReadsScript text (Ok lines)
  pub lacks : first_lacking volumes lines ≡ Some line

-- the text says these lines, and the volumes have what they serve
pub record IsPlayed (text : List ℕ) (volumes : List Volume) (lines : List Numbered) : Type 0 where
  pub reads : ReadsScript text (Ok lines)
  pub served : first_lacking volumes lines ≡ None

-- the text says this, and nothing else
pub record SaysOnly (text : List ℕ) (answer : Result (List Numbered) Fault) : Type 0 where
  pub reads : ReadsScript text answer
  pub only : (other : Result (List Numbered) Fault) → ReadsScript text other → other ≡ answer

-- the text says lines, of which the volumes lack what this first one serves
pub record FirstLacks (text : List ℕ) (media : Option (List Volume)) (line : ℕ) : Type 0 where
  pub lines : List Numbered
  pub says : SaysOnly text (Ok lines)
  pub lacks : ForSome media (λ volumes. first_lacking volumes lines ≡ Some line)

-- why there is no network: a wrong line, or one whose file is not there or too long
abbrev pub IsRefusedScript : Option (List ℕ) → Option (List Volume) → ℕ → ScriptKind → Type 0
IsRefusedScript script media line kind = ForSome script (λ text.
    SaysOnly text (Err (record { line = line; kind = kind })) ⊎ ((kind ≡ NoBody) × FirstLacks text media line))

-- the network of these rows is that of the script
pub record Plays (text : List ℕ) (media : Option (List Volume)) (rows : List Row) : Type 0 where
  pub lines : List Numbered
  pub says : SaysOnly text (Ok lines)
  pub plays : ForSome media (λ volumes. (first_lacking volumes lines ≡ None) × (rows ≡ script_rows (served volumes lines)))

-- why a script makes no network
abbrev pub net_fault_of : ScriptFault → NetFault
net_fault_of (scripts.Bad line kind) = faults.Bad line kind
net_fault_of scripts.Media = faults.Media
net_fault_of scripts.Memory = faults.Memory

-- the status of a call that ends for want of a network
abbrev pub net_status : NetFault → Status
net_status faults.Source = statuses.SourceFault
net_status faults.Media = statuses.MediaFault
net_status faults.Memory = statuses.Memory
net_status (faults.Bad line kind) = statuses.BadScript line kind
