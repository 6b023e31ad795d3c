mod Steps
mod Replaying
mod Calls
mod Picking
mod Crashes
mod Opening
mod Shorts
