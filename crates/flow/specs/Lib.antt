pub mod Faults
pub mod Core
pub mod Own
pub mod Sends
pub mod Running
pub mod Phase
