pub mod Firsts
pub mod Shown
pub mod Places
pub mod Leases
pub mod Whole
