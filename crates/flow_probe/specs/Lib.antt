pub mod Probe
pub mod Laws
