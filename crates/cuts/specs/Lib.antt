pub mod States
pub mod Cuts
pub mod Orderly
pub mod Law
pub mod Spans
pub mod Whole
