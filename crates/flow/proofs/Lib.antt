pub mod OwnRun
mod Order
mod Due
mod Sending
mod Changes
mod Calls
mod Turning
mod Opening
mod Ending
pub mod Merging
