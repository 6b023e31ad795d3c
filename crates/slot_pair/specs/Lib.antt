pub mod Body
pub mod Choice
pub mod Formatting
pub mod Head
pub mod Pair
pub mod Putting
