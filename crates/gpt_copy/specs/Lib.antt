pub mod Rows
pub mod Entries
pub mod Header
pub mod Copy
pub mod Writing
