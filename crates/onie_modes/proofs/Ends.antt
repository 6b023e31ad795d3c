-- How runs end: counts of faults, and what holds where nothing was printed.
use Rattle.std.proofs.Common.{◌≡◌, ◌≢◌, ◌⊎◌, inl, inr, ℕ, ◌≤◌, List, [], ◌++◌, Option, Some, None, Bool, true, refl, sym, ap, subst, ◌∙◌, arith}
use Rattle.std.specs.Prelude.{IsTrue, IsSome}
use Rattle.bd_dev.specs.Faults.{HasCauseOr, Rose}
use Rattle.bd_dev.specs.Sink.{Appends, AppendsFront}
use Rattle.bd_dev.proofs.Appending.{Appends-same, AppendsFront-longer}
use Rattle.bd_dev.proofs.Lines.{Appends-front}
use Rattle.onie_modes.specs.Console.{AppendsLines}
use Rattle.onie_modes.specs.Course.{Course, Plan}
use Rattle.onie_modes.specs.Devices.{Device, Devices, Seen, ThePlant, TheEeprom, TheMedia, TheScript, TheConsole, TheTrace, faults_of}
use Rattle.onie_modes.specs.Running.{Breaks, BrokeOff, FaultCounts, fault_of}
use Rattle.onie_modes.specs.declared.exit.Status.{Status}
use Rattle.onie_modes.specs.declared.exit.Status.TheVariants as statuses
use Rattle.onie_modes.proofs.WholeLines.{no_lines}

-- a device's count, at the end of a run
pub record Counted (fault end : Status) (before now : ℕ) : Type 0 where
  pub later : before ≤ now
  pub quiet : end ≢ fault → now ≡ before

pub still : (fault end : Status) (count : ℕ) → Counted fault end count count
still fault end count = record { later = omega arith; quiet = λ other. refl }

-- that of a device whose fault ended it
pub rose : (fault : Status) (before now : ℕ) → before ≤ now → Counted fault fault before now
rose fault before now later = record { later = later; quiet = λ other. absurd (other refl) }

-- that of a device that failed in no call
pub stayed : (fault end : Status) (before now : ℕ) → now ≡ before → Counted fault end before now
stayed fault end before now same = record { later = omega (arith, same); quiet = λ other. same }

pub all_counted : (old new : Devices) (end : Status) → Counted statuses.PlantFault end old.plant new.plant
    → Counted statuses.EepromFault end old.eeprom.faults new.eeprom.faults
    → Counted statuses.MediaFault end old.media.faults new.media.faults
    → Counted statuses.SourceFault end old.script.faults new.script.faults
    → Counted statuses.SinkFault end old.console.faults new.console.faults
    → Counted statuses.SinkFault end old.trace.faults new.trace.faults → FaultCounts old new end
all_counted old new end plant eeprom media script console trace = record { later = later; quiet = quiet }
  where
    later : (device : Device) → faults_of old device ≤ faults_of new device
    later ThePlant = plant.later
    later TheEeprom = eeprom.later
    later TheMedia = media.later
    later TheScript = script.later
    later TheConsole = console.later
    later TheTrace = trace.later

    quiet : (device : Device) → end ≢ fault_of device → faults_of new device ≡ faults_of old device
    quiet ThePlant = plant.quiet
    quiet TheEeprom = eeprom.quiet
    quiet TheMedia = media.quiet
    quiet TheScript = script.quiet
    quiet TheConsole = console.quiet
    quiet TheTrace = trace.quiet

-- what is told
pub told_of : {X : Type 0} (content : Option X) → IsSome content → (x : X) × (content ≡ Some x)
told_of None told = absurd cc
told_of (Some x) told = (x, refl)

pub front_of_none : (old : Option (List ℕ)) (text : List ℕ) → AppendsFront old old text
front_of_none old text = AppendsFront-longer old old [] text (Appends-front old old [] (Appends-same old))

-- a run that is broken off before it printed or stored anything
pub broke_before : (plan : Plan) (c : Course) (old new : Devices) (end : Status) → Breaks c.calls true old new end
    → new.console.holds ≡ old.console.holds → new.trace.holds ≡ old.trace.holds → new.eeprom.holds ≡ old.eeprom.holds
    → plan.follows c end → BrokeOff plan c old new end
broke_before plan c old new end why console trace eeprom plant = record {
  why = why;
  begins = λ failed. subst (λ (x : Option (List ℕ)). AppendsFront old.console.holds x c.begins) (sym console) (front_of_none old.console.holds c.begins);
  plant = plant;
  front = subst (λ (x : Option (List ℕ)). AppendsFront old.console.holds x c.text) (sym console) (front_of_none old.console.holds c.text);
  lines = λ in_lines other. subst (λ (x : Option (List ℕ)). AppendsLines old.console.holds x c.text) (sym console) (no_lines old.console.holds c.text);
  trace = subst (λ (x : Option (List ℕ)). AppendsFront old.trace.holds x c.trace) (sym trace) (front_of_none old.trace.holds c.trace);
  eeprom = λ none. eeprom;
}
