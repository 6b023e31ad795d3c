pub mod Waits
pub mod Laws
pub mod Places
pub mod Around
pub mod Sorted
