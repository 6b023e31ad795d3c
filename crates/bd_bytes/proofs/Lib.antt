pub mod Bits
pub mod Checksum
pub mod Division
pub mod Examples
pub mod NumberLemmas
pub mod Polynomial
