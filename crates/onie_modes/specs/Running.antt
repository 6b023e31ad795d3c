-- How a call takes its course, or is broken off, and how its end is reported.
use Rattle.std.specs.Prelude.{◌≡◌, ◌≢◌, ◌⊎◌, ℕ, ◌≤◌, List, [], Bool, true, false, IsTrue, Option, Some, None}
use Rattle.bd_dev.specs.Faults.{Rose}
use Rattle.bd_dev.specs.Sink.{Appends, AppendsFront}
use Rattle.onie_modes.specs.Console.{AppendsLines}
use Rattle.onie_modes.specs.Course.{Course, Plan, called}
use Rattle.onie_modes.specs.Devices.{Device, Devices, Failed, Seen, ThePlant, TheEeprom, TheMedia, TheScript, TheConsole, TheTrace, faults_of, with_console}
use Rattle.onie_modes.specs.Refusal.{refusal_line_of}
use Rattle.onie_modes.specs.declared.exit.Status.{Status}
use Rattle.onie_modes.specs.declared.exit.Status.TheVariants as statuses

-- ---- faults

-- the status of a device's fault
abbrev pub fault_of : Device → Status
fault_of ThePlant = statuses.PlantFault
fault_of TheEeprom = statuses.EepromFault
fault_of TheMedia = statuses.MediaFault
fault_of TheScript = statuses.SourceFault
fault_of TheConsole = statuses.SinkFault
fault_of TheTrace = statuses.SinkFault

-- the device is one of these, and counted a fault
pub record Fails (calls : Device → Bool) (old new : Devices) (device : Device) : Type 0 where
  pub called : IsTrue (calls device)
  pub counted : Failed old new device

-- A call over these devices is broken off so: by a fault of one of them, or for want of memory.
abbrev pub Breaks : (Device → Bool) → Bool → Devices → Devices → Status → Type 0
Breaks calls memory old new statuses.PlantFault = Fails calls old new ThePlant
Breaks calls memory old new statuses.EepromFault = Fails calls old new TheEeprom
Breaks calls memory old new statuses.MediaFault = Fails calls old new TheMedia
Breaks calls memory old new statuses.SourceFault = Fails calls old new TheScript
Breaks calls memory old new statuses.SinkFault = Fails calls old new TheConsole ⊎ Fails calls old new TheTrace
Breaks calls memory old new statuses.Memory = IsTrue memory
Breaks calls memory old new status = ⊥

-- No count falls, and none rises but that of the fault that ended the call: a fault ends it at once.
pub record FaultCounts (old new : Devices) (end : Status) : Type 0 where
  pub later : (device : Device) → faults_of old device ≤ faults_of new device
  pub quiet : (device : Device) → end ≢ fault_of device → faults_of new device ≡ faults_of old device

-- ---- a run, before the line of its end is written

-- what the EEPROM holds after a call that stores these bytes, or nothing
abbrev pub stored_over : Option (List ℕ) → Option (List ℕ) → Option (List ℕ)
stored_over None old = old
stored_over (Some bytes) old = Some bytes

-- it took this course to its end
pub record Took (plan : Plan) (c : Course) (old new : Devices) (end : Status) : Type 0 where
  pub is : end ≡ c.status
  pub console : Appends old.console.holds new.console.holds c.text
  pub trace : Appends old.trace.holds new.trace.holds c.trace
  pub eeprom : new.eeprom.holds ≡ stored_over c.stores old.eeprom.holds
  pub plant : plan.follows c end

-- it was broken off on this course
pub record BrokeOff (plan : Plan) (c : Course) (old new : Devices) (end : Status) : Type 0 where
  pub why : Breaks c.calls true old new end
  pub front : AppendsFront old.console.holds new.console.holds c.text
  pub begins : end ≡ statuses.PlantFault → AppendsFront old.console.holds new.console.holds c.begins
  pub lines : c.in_lines ≡ true → end ≢ statuses.SinkFault → AppendsLines old.console.holds new.console.holds c.text
  pub trace : AppendsFront old.trace.holds new.trace.holds c.trace
  pub eeprom : c.stores ≡ None → new.eeprom.holds ≡ old.eeprom.holds
  pub plant : plan.follows c end

-- it took the course that the devices decide, and none else
pub record Went (plan : Plan) (old new : Devices) (end : Status) : Type 0 where
  pub course : Course
  pub comes : plan.comes old course
  pub only : (other : Course) → plan.comes old other → other ≡ course
  pub took : Took plan course old new end

-- What a run of a command does.
pub record Runs (plan : Plan) (old new : Devices) (end : Status) : Type 0 where
  pub counts : FaultCounts old new end
  -- it ends in one of its own ways, or is broken off
  pub ends : plan.answers end ⊎ Breaks (called plan) plan.memory old new end
  -- one of its own ends is that of its course, where the devices tell that decide it
  pub went : plan.answers end → plan.told old end → Went plan old new end
  -- one that is broken off was on the course that the devices decide
  pub broken : Breaks (called plan) plan.memory old new end → (c : Course) → plan.comes old c → BrokeOff plan c old new end
  pub silent : plan.silent end ≡ true → new.console.holds ≡ old.console.holds
  pub leaves : plan.leaves old new end

-- ---- the report

-- the line of the end was written, and the end is answered
pub record Writes (old new : Seen (List ℕ)) (end status : Status) : Type 0 where
  pub is : status ≡ end
  pub line : Appends old.holds new.holds (refusal_line_of end)
  pub quiet : new.faults ≡ old.faults

-- the console failed in that line
pub record Loses (old new : Seen (List ℕ)) (end status : Status) : Type 0 where
  pub is : status ≡ statuses.SinkFault
  pub some : refusal_line_of end ≢ []
  pub front : AppendsFront old.holds new.holds (refusal_line_of end)
  pub fault : Rose old.faults new.faults

abbrev pub Reports : Seen (List ℕ) → Seen (List ℕ) → Status → Status → Type 0
Reports old new end status = Writes old new end status ⊎ Loses old new end status

-- What a call of a command does: it runs to an end, and the line of that end is written behind.
pub record Does (plan : Plan) (old new : Devices) (status : Status) : Type 0 where
  pub end : Status
  pub console : Seen (List ℕ)  -- before the line
  pub runs : Runs plan old (with_console new console) end
  pub reported : Reports console new.console end status
