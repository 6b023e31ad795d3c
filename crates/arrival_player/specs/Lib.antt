pub mod Spots
pub mod Earliest
pub mod Flows
pub mod Played
