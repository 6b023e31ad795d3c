-- The fault of a fetch, by that of a run of flows.
use Rattle.find_fetch.specs.declared.fetched.FetchFault.{FetchFault}
use Rattle.find_fetch.specs.declared.fetched.FetchFault.TheVariants.{Net, Memory}
use Rattle.flow.specs.declared.flows.FlowFault.{FlowFault}
use Rattle.flow.specs.declared.flows.FlowFault.TheVariants.{Net as FlowNet, Memory as FlowMemory}

-- a failure of the network, or want of memory
abbrev pub fault_of : FlowFault → FetchFault
fault_of FlowNet = Net
fault_of FlowMemory = Memory
