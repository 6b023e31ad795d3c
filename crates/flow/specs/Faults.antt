-- The fault of a run, by that of the network.
use Rattle.bd_dev.specs.declared.faults.DevFault.{DevFault}
use Rattle.bd_dev.specs.declared.faults.DevFault.TheVariants.{Failed, Memory}
use Rattle.flow.specs.declared.flows.FlowFault.{FlowFault}
use Rattle.flow.specs.declared.flows.FlowFault.TheVariants.{Net, Memory as NoMemory}

-- a failure of the network, or want of memory
abbrev pub fault_of : DevFault → FlowFault
fault_of Failed = Net
fault_of Memory = NoMemory
