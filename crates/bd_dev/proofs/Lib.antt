pub mod Appending
pub mod Ordering
pub mod Places
mod Lookups
mod Adding
mod Storing
pub mod Windows
pub mod Lines
pub mod Joins
pub mod Touch
mod FileFronts
mod SourceFronts
