pub mod Journal
pub mod Held
pub mod Changes
pub mod Opening
