mod Alone
mod Bodies
mod Closings
mod Currents
mod Formats
pub mod Frames
mod Heads
mod OpenGates
pub mod Pairs
mod Puts
mod Replacing
mod Spelling
