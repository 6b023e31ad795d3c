pub mod Dotted
pub mod Groups
