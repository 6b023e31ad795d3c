mod Waiting
mod Steady
mod Decided
