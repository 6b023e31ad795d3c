pub mod Hosts
pub mod Labels
