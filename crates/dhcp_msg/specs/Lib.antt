pub mod Adding
pub mod Fields
pub mod Layout
pub mod Messages
pub mod Options
pub mod Reading
pub mod Spelling
pub mod Steps
