-- A command, as data: the devices that it uses, its own ends, and the course that it takes by what the devices hold.
use Rattle.std.specs.Prelude.{ℕ, List, [], Option, None, Some, Bool, true, false}
use Rattle.cuts.specs.declared.effect.Effect.{Effect}
use Rattle.onie_modes.specs.Devices.{Device, Devices, Use, ThePlant, TheEeprom, TheConsole, is_used}
use Rattle.onie_modes.specs.declared.exit.Outcome.TheVariants as outcomes
use Rattle.onie_modes.specs.declared.exit.Status.{Status}
use Rattle.onie_modes.specs.declared.exit.Status.TheVariants as statuses

-- What a call comes to where no device fails and memory suffices.
pub record Course : Type 0 where
  pub calls : Device → Bool  -- the devices that it may call
  pub status : Status
  pub text : List ℕ  -- what it prints before the line of the status
  pub begins : List ℕ  -- of that, what it prints before its last call of the plant
  pub in_lines : Bool  -- where it is broken off, it has printed whole lines
  pub trace : List ℕ  -- what it writes to the trace
  pub stores : Option (List ℕ)  -- what the EEPROM holds then, where it stores something
  pub effects : List Effect  -- what it changes on the disk and in the variables

-- it ends so without a text
abbrev pub ends : (Device → Bool) → Status → Course
ends calls status = record {
  calls = calls;
  status = status;
  text = [];
  begins = [];
  in_lines = true;
  trace = [];
  stores = None;
  effects = [];
}

-- it prints the text, after its last call of the plant
abbrev pub prints : (Device → Bool) → List ℕ → Course
prints calls text = record {
  calls = calls;
  status = statuses.Done outcomes.Printed;
  text = text;
  begins = [];
  in_lines = true;
  trace = [];
  stores = None;
  effects = [];
}

-- it stores the bytes
abbrev pub stores : (Device → Bool) → List ℕ → Course
stores calls bytes = record {
  calls = calls;
  status = statuses.Done outcomes.Stored;
  text = [];
  begins = [];
  in_lines = true;
  trace = [];
  stores = Some bytes;
  effects = [];
}

-- What a command is to a contract. One that calls the plant is made from what the plant tells before and after.
pub record Plan : Type 1 where
  pub uses : Device → Use
  pub memory : Bool  -- it may want memory
  pub answers : Status → Type 0  -- its own ends: all but a device's fault and want of memory
  pub silent : Status → Bool  -- a run that ends so has printed nothing
  pub told : Devices → Status → Type 0  -- the devices that decide this end tell what they hold
  pub comes : Devices → Course → Type 0  -- the course, by what the devices hold
  pub follows : Course → Status → Type 0  -- what the plant is left as on a course, by the end of the run
  pub leaves : Devices → Devices → Status → Type 0  -- what is left, whatever the devices tell

-- the devices that the command may call
abbrev pub called : Plan → Device → Bool
called plan device = is_used (plan.uses device)

-- ---- the devices that a course calls

abbrev pub no_device : Device → Bool
no_device device = false

abbrev pub the_plant : Device → Bool
the_plant ThePlant = true
the_plant device = false

abbrev pub the_eeprom : Device → Bool
the_eeprom TheEeprom = true
the_eeprom device = false

-- these, and the console, on which it prints
abbrev pub and_console : (Device → Bool) → Device → Bool
and_console calls TheConsole = true
and_console calls device = calls device
