pub mod Rows
pub mod Network
