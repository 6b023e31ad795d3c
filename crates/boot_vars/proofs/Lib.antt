mod Answering
pub mod BadLines
pub mod Changing
mod Firsts
pub mod Kept
mod LineParts
mod Listing
mod Places
pub mod Setting
