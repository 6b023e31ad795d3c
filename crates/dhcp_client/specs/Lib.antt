pub mod Asking
pub mod Meanings
pub mod Leasing
pub mod Places
