pub mod Allowed
pub mod Numerals
pub mod Once
pub mod Rules
pub mod Whole
