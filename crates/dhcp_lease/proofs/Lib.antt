pub mod Blocks
pub mod Quads
pub mod Trimming
