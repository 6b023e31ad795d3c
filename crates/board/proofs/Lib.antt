mod Noting
pub mod Keeping
pub mod Leaving
pub mod Refusing
pub mod Openings
pub mod Settling
mod VariableChanges
