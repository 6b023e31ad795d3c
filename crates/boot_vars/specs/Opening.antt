-- Which fault of the pair of slots the opening of the variables answers as which of its own.
use Rattle.slot_pair.specs.declared.fault.SlotFault.{SlotFault}
use Rattle.slot_pair.specs.declared.fault.SlotFault.TheVariants as slot_faults
use Rattle.boot_vars.specs.declared.fault.VarsFault.{VarsFault}
use Rattle.boot_vars.specs.declared.fault.VarsFault.TheVariants.{NoSlot, Fault}

-- the fault of the pair, as one of the variables
abbrev pub of_slot_fault : SlotFault → VarsFault
of_slot_fault slot_faults.NoSlot = NoSlot
of_slot_fault slot_faults.Fault = Fault
