pub mod Found
pub mod Decided
pub mod Around
pub mod Sorting
