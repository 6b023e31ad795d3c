pub mod Together
pub mod Edits
pub mod Runs
pub mod NewGuid
pub mod Copies
pub mod Alone
