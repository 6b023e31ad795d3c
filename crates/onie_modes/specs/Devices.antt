-- The devices of a call, as contracts see them: what each holds, where it tells, and how many faults it counted.
use Rattle.std.specs.Prelude.{ℕ, List, Option, Bool, true, false}
use Rattle.bd_dev.specs.Faults.{Rose}
use Rattle.bd_dev.specs.Volumes.{Volume}

-- what a device holds, where it tells, and its count of faults; of a source what is left, of a sink what it took
pub record Seen (X : Type 0) : Type 0 where
  pub holds : Option X
  pub faults : ℕ

abbrev pub seen : {X : Type 0} → Option X → ℕ → Seen X
seen holds faults = record { holds = holds; faults = faults }

-- the devices; of the plant its count of faults alone, since a view of it stands beside
pub record Devices : Type 0 where
  pub plant : ℕ
  pub eeprom : Seen (List ℕ)
  pub media : Seen (List Volume)
  pub script : Seen (List ℕ)
  pub console : Seen (List ℕ)
  pub trace : Seen (List ℕ)

abbrev pub devices : ℕ → Seen (List ℕ) → Seen (List Volume) → Seen (List ℕ) → Seen (List ℕ) → Seen (List ℕ) → Devices
devices plant eeprom media script console trace = record {
  plant = plant;
  eeprom = eeprom;
  media = media;
  script = script;
  console = console;
  trace = trace;
}

-- the same but for one device
abbrev pub with_plant : Devices → ℕ → Devices
with_plant d plant = devices plant d.eeprom d.media d.script d.console d.trace

abbrev pub with_eeprom : Devices → Seen (List ℕ) → Devices
with_eeprom d eeprom = devices d.plant eeprom d.media d.script d.console d.trace

abbrev pub with_console : Devices → Seen (List ℕ) → Devices
with_console d console = devices d.plant d.eeprom d.media d.script console d.trace

pub data Device : Type 0 where
  ThePlant : Device
  TheEeprom : Device
  TheMedia : Device
  TheScript : Device
  TheConsole : Device
  TheTrace : Device

abbrev pub faults_of : Devices → Device → ℕ
faults_of d ThePlant = d.plant
faults_of d TheEeprom = d.eeprom.faults
faults_of d TheMedia = d.media.faults
faults_of d TheScript = d.script.faults
faults_of d TheConsole = d.console.faults
faults_of d TheTrace = d.trace.faults

-- the device counted a fault
abbrev pub Failed : Devices → Devices → Device → Type 0
Failed old new device = Rose (faults_of old device) (faults_of new device)

-- what a command does with a device
pub data Use : Type 0 where
  Unused : Use
  Looked : Use
  Written : Use

abbrev pub is_used : Use → Bool
is_used Unused = false
is_used Looked = true
is_used Written = true

-- a device is as it was where it is unused, and its content where it is only read
abbrev pub KeptBy : Use → Type 0 → Type 0 → Type 0
KeptBy Unused same same_content = same
KeptBy Looked same same_content = same_content
KeptBy Written same same_content = Unit {0}
